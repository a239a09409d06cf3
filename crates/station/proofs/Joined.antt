-- Files of `--over` read one after the other, and how much their documents hold together.
use Rattle.std.proofs.Common.{◌≡◌, ℕ, ◌+◌, ◌*◌, ◌<◌, ◌≤◌, List, [], ◌∷◌, ◌++◌, length, map, take, drop, get_or, refl, sym, ap, subst, ◌∙◌, arith, inl, inr, append-nil, length-take, Ok, Err, Result, Option, Bor}
use Rattle.std.specs.Prelude.{IfOk}
use Rattle.std.specs.List.{flat_map, AllByRecursion}
use Rattle.std.proofs.lemmas.List.{length-map, get_or-map, take_more, drop_more, take-append-drop}
use Rattle.std.proofs.lemmas.List.Concat.{flat_map-append}
use Rattle.sk_grammar.specs.Document.{ItemView, BlockView, DocView}
use Rattle.sk_grammar.specs.Variables.{items_of}
use Rattle.sk_excerpt.specs.Excerpt.{joined}
use Rattle.sk_excerpt.proofs.Law.{join_law}
use Rattle.sk_status.specs.declared.status.Status.{Status}
use Rattle.sk_status.specs.declared.status.Status.TheVariants.{NoMemory}
use Rattle.sk_status.specs.declared.status.DocumentKind.{DocumentKind}
use Rattle.sk_status.specs.declared.status.DocumentKind.TheVariants.{Over}
use Rattle.sk_outcome.specs.Stage.{Stage, ◌>>=◌, gives, MayAnswer}
use Rattle.sk_outcome.specs.Seen.{Source, Stays, seen_by}
use Rattle.sk_outcome.specs.Files.{document, HasFew}
use Rattle.sk_outcome.specs.Joined.{over_documents, joined_behind}
use Rattle.sk_outcome.proofs.Follows.{document_follows, over_follows}
use Rattle.sk_outcome.proofs.Moves.{moves}
use Rattle.station.proofs.Sizes.{total, total-none, total-append, block_items, document_room, items_least, counted}

-- ---- one file more

-- the files before this one have been read, and now this one
pub over_more : (source : Source) (place : ℕ) (names : List (List ℕ)) (name : List ℕ) (docs : List DocView) (doc : DocView)
    → over_documents source place names (Ok docs) → document source (Over (place + length names)) name (Ok doc)
    → over_documents source place (names ++ name ∷ []) (Ok (docs ++ doc ∷ []))
over_more source place [] name docs doc h k =
    let none : docs ≡ [] = cc in
    let here : place + 0 ≡ place = omega arith in (
      doc,
      subst (λ (p : ℕ). document source (Over p) name (Ok doc)) here k,
      ([], refl, ap (λ (ds : List DocView). Ok (ds ++ doc ∷ [])) none),
    )
over_more source place (first ∷ names) name docs doc h k =
    let e : ◌≡◌ {A = Result (List DocView) Status} (Ok docs) (Ok (h.0 ∷ h.2.0)) = h.2.2 in
    let same : docs ≡ h.0 ∷ h.2.0 = cc in
    let next : place + length (first ∷ names) ≡ place + 1 + length names = omega arith in
    let rest = over_more source (place + 1) names name h.2.0 doc h.2.1 (subst (λ (p : ℕ). document source (Over p) name (Ok doc)) next k) in
    (h.0, h.1, (h.2.0 ++ doc ∷ [], rest, ap (λ (ds : List DocView). Ok (ds ++ doc ∷ [])) same))

-- a file that ends the run
pub over_ended : (source : Source) (place : ℕ) (names : List (List ℕ)) (name : List ℕ) (more : List (List ℕ)) (docs : List DocView) (status : Status)
    → over_documents source place names (Ok docs) → document source (Over (place + length names)) name (Err status)
    → over_documents source place (names ++ name ∷ more) (Err status)
over_ended source place [] name more docs status h k =
    let here : place + 0 ≡ place = omega arith in
    inl (subst (λ (p : ℕ). document source (Over p) name (Err status)) here k)
over_ended source place (first ∷ names) name more docs status h k =
    let next : place + length (first ∷ names) ≡ place + 1 + length names = omega arith in
    inr (h.0, h.1, inl (over_ended source (place + 1) names name more h.2.0 status h.2.1 (subst (λ (p : ℕ). document source (Over p) name (Err status)) next k)))

-- a document with none behind it
pub joined_none : (first : DocView) → first ≡ joined (first ∷ [])
joined_none first = ap (λ (blocks : List BlockView). record { head = first.head; blocks = blocks }) (sym (append-nil first.blocks))

-- ---- the files of a list, by their places

module _ {D : Type 0} (holds : D → List ℕ → Option (List ℕ)) (given : D → ℕ) (faults : D → List ℕ → ℕ) (names : List (Bor (List ℕ))) where
  abbrev texts : List (List ℕ)
  texts = map (λ (n : Bor (List ℕ)). n.now) names

  abbrev seen : D → D → Source
  seen a b = seen_by holds given faults a b

  abbrev name_at : ℕ → Bor (List ℕ) → List ℕ
  name_at index none = (get_or names index none).now

  text_at : (index : ℕ) (none : Bor (List ℕ)) → index < length names → get_or texts index (name_at index none) ≡ name_at index none
  text_at index none low = get_or-map (λ (n : Bor (List ℕ)). n.now) names index none (name_at index none) low

  low_text : (index : ℕ) → index < length names → index < length texts
  low_text index low = omega (arith, low, length-map names (λ (n : Bor (List ℕ)). n.now))

  front : (index : ℕ) → index < length names → 1 + length (take index texts) ≡ index + 1
  front index low = omega (arith, low_text index low, length-take index texts)

  pub one_more : (a b z : D) (index : ℕ) (none : Bor (List ℕ)) (docs : List DocView) (later : DocView) → index < length names
      → Stays holds faults a b → over_documents (seen a b) 1 (take index texts) (Ok docs) → document (seen b z) (Over (index + 1)) (name_at index none) (Ok later)
      → over_documents (seen a z) 1 (take (index + 1) texts) (Ok (docs ++ later ∷ []))
  one_more a b z index none docs later low stays h k =
      let name : List ℕ = name_at index none in
      let before = (over_follows 1 (take index texts)).kept (seen a b) (seen a z) (λ n. refl) docs h in
      let read = (document_follows (Over (index + 1)) name).kept (seen b z) (seen a z) (λ n. sym (stays.0 n)) later k in
      let placed = subst (λ (p : ℕ). document (seen a z) (Over p) name (Ok later)) (sym (front index low)) read in
      let names_are : take (index + 1) texts ≡ take index texts ++ name ∷ [] =
      take_more texts index name (low_text index low) ∙ ap (λ (t : List ℕ). take index texts ++ t ∷ []) (text_at index none low) in
      subst (λ (ns : List (List ℕ)). over_documents (seen a z) 1 ns (Ok (docs ++ later ∷ []))) (sym names_are)
      (over_more (seen a z) 1 (take index texts) name docs later before placed)

  ended_at : (a b z : D) (index : ℕ) (none : Bor (List ℕ)) (docs : List DocView) (first : DocView) (status : Status) → index < length names
      → Stays holds faults a b → over_documents (seen a b) 1 (take index texts) (Ok docs)
      → MayAnswer {X = DocView} (λ (d : DocView). d) (document (seen b z) (Over (index + 1)) (name_at index none)) (Err status)
      → MayAnswer {X = DocView} (λ (d : DocView). d) (joined_behind (seen a z) first texts) (Err status)
  ended_at a b z index none docs first NoMemory low stays h k = tt
  ended_at a b z index none docs first status low stays h k =
      let name : List ℕ = name_at index none in
      let before = (over_follows 1 (take index texts)).kept (seen a b) (seen a z) (λ n. refl) docs h in
      let read = (document_follows (Over (index + 1)) name).ended (seen b z) (seen a z) (moves holds given faults a b z stays) status k in
      let placed = subst (λ (p : ℕ). document (seen a z) (Over p) name (Err status)) (sym (front index low)) read in
      let names_are : take index texts ++ name ∷ drop (index + 1) texts ≡ texts =
      ap (λ (t : List ℕ). take index texts ++ t ∷ drop (index + 1) texts) (sym (text_at index none low))
      ∙ ap (λ (ts : List (List ℕ)). take index texts ++ ts) (sym (drop_more texts index name (low_text index low)))
      ∙ take-append-drop index texts in
      inl (subst (λ (ns : List (List ℕ)). over_documents (seen a z) 1 ns (Err status)) names_are
      (over_ended (seen a z) 1 (take index texts) name (drop (index + 1) texts) docs status before placed))

  pub one_ended : (a b z : D) (index : ℕ) (none : Bor (List ℕ)) (docs : List DocView) (first : DocView) (status : Status) (q r : Result DocView Status) → index < length names
      → Stays holds faults a b → over_documents (seen a b) 1 (take index texts) (Ok docs) → q ≡ Err status → r ≡ Err status
      → MayAnswer {X = DocView} (λ (d : DocView). d) (document (seen b z) (Over (index + 1)) (name_at index none)) q
      → MayAnswer {X = DocView} (λ (d : DocView). d) (joined_behind (seen a z) first texts) r
  one_ended a b z index none docs first status q r low stays h e f k =
      subst (λ (s : Result DocView Status). MayAnswer {X = DocView} (λ (d : DocView). d) (joined_behind (seen a z) first texts) s) (sym f)
      (ended_at a b z index none docs first status low stays h
      (subst (λ (s : Result DocView Status). MayAnswer {X = DocView} (λ (d : DocView). d) (document (seen b z) (Over (index + 1)) (name_at index none)) s) e k))

-- ---- how much they hold

file_room : (source : Source) (kind : DocumentKind) (name : List ℕ) (doc : DocView) → document source kind name (Ok doc) → total (items_of doc) ≤ 16777217
file_room source kind name doc h = omega (arith, document_room h.0 doc h.2, h.1.0)

abbrev AreSmall : List DocView → Type 0
AreSmall docs = AllByRecursion (λ (doc : DocView). total (items_of doc) ≤ 16777217) docs

over_room : (source : Source) (place : ℕ) (names : List (List ℕ)) (docs : List DocView) → over_documents source place names (Ok docs)
    → (length docs ≡ length names) × AreSmall docs
over_room source place [] docs h =
    let none : docs ≡ [] = cc in
    subst (λ (ds : List DocView). (length ds ≡ 0) × AreSmall ds) (sym none) (refl, tt)
over_room source place (name ∷ names) docs h =
    let e : ◌≡◌ {A = Result (List DocView) Status} (Ok docs) (Ok (h.0 ∷ h.2.0)) = h.2.2 in
    let same : docs ≡ h.0 ∷ h.2.0 = cc in
    let rest = over_room source (place + 1) names h.2.0 h.2.1 in
    subst (λ (ds : List DocView). (length ds ≡ length (name ∷ names)) × AreSmall ds) (sym same)
    (omega (arith, rest.0), (file_room source (Over place) name h.0 h.1, rest.1))

room_of : (docs : List DocView) → AreSmall docs → total (block_items (flat_map (λ (doc : DocView). doc.blocks) docs)) ≤ length docs * 16777217
room_of [] h = omega (arith, total-none)
room_of (doc ∷ docs) h =
    let behind : List BlockView = flat_map (λ (d : DocView). d.blocks) docs in
    let k : total (block_items behind) ≤ length docs * 16777217 = room_of docs h.1 in
    let e : total (block_items (doc.blocks ++ behind)) ≡ total (block_items doc.blocks ++ block_items behind) = ap total (flat_map-append (λ (block : BlockView). block.items) doc.blocks behind) in
    omega (arith, h.0, k, e, total-append (block_items doc.blocks) (block_items behind))

few_joined : (first : DocView) (docs : List DocView) → total (items_of first) ≤ 16777217 → AreSmall docs → length docs ≤ 16 → HasFew (joined (first ∷ docs))
few_joined first docs h k few =
    let room : total (items_of (joined (first ∷ docs))) ≤ length (first ∷ docs) * 16777217 = room_of (first ∷ docs) (h, k) in
    record {
      items = omega (arith, room, few, items_least (items_of (joined (first ∷ docs))));
      values = counted (items_of (joined (first ∷ docs))) (omega (arith, room, few));
    }

-- a kernel with at most 16 behind it
pub few_behind : (source later : Source) (kind : DocumentKind) (name : List ℕ) (names : List (List ℕ)) (first : DocView) (r : Result DocView Status)
    → document source kind name (Ok first) → length names ≤ 16 → MayAnswer {X = DocView} (λ (d : DocView). d) (joined_behind later first names) r → IfOk r HasFew
few_behind source later kind name names first (Ok doc) h few k =
    let room = over_room later 1 names k.0 k.1 in
    let e : ◌≡◌ {A = Result DocView Status} (Ok doc) (Ok (joined (first ∷ k.0))) = k.2 in
    let same : doc ≡ joined (first ∷ k.0) = cc in
    subst HasFew (sym same) (few_joined first k.0 (file_room source kind name first h) room.1 (omega (arith, room.0, few)))
few_behind source later kind name names first (Err s) h few k = tt
