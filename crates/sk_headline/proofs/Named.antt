-- What words come to depends on the files that they name alone.
use Rattle.std.proofs.Common.{◌≡◌, ℕ, ◌+◌, ◌<◌, ◌≤◌, List, [], ◌∷◌, ◌++◌, length, codes, Option, Some, None, Result, Ok, Err, refl, sym, subst, inl, inr, arith}
use Rattle.std.specs.Prelude.{All, IsSome, IfSome, is_none, false, unwrap_or}
use Rattle.std.specs.Option.{option_to_list, option_map_or}
use Rattle.sk_grammar.specs.Document.{DocView}
use Rattle.sk_leap.specs.declared.pair.LeapPair.{LeapPair}
use Rattle.sk_words.specs.declared.tables.Command.{Command}
use Rattle.sk_words.specs.declared.tables.Command.TheVariants.{Publish, Residuals, Normal, Convert, Sample, Invert, Audit, Excerpt, Least, Plot}
use Rattle.sk_words.specs.declared.tables.OptionName.TheVariants as opt
use Rattle.sk_words.specs.declared.topic.Topic.{Topic}
use Rattle.sk_words.specs.Asked.{Request}
use Rattle.sk_words.specs.Help.{page_of}
use Rattle.sk_words.specs.Request.{Options, text_or, files_of, over_names}
use Rattle.sk_words.specs.Topics.{topic_of}
use Rattle.sk_words.proofs.Needed.{AreNamed, are_named}
use Rattle.sk_status.specs.declared.status.Status.{Status}
use Rattle.sk_status.specs.declared.status.DocumentKind.{DocumentKind}
use Rattle.sk_status.specs.declared.status.DocumentKind.TheVariants.{Leap, Kernel, New, Over}
use Rattle.sk_status.specs.declared.status.FileKind.{FileKind}
use Rattle.sk_status.specs.declared.status.FileKind.TheVariants.{Document, Observations}
use Rattle.sk_excerpt.specs.Excerpt.{joined}
use Rattle.sk_outcome.specs.Stage.{Stage, ◌>>=◌, gives}
use Rattle.sk_outcome.specs.Seen.{Source}
use Rattle.sk_outcome.specs.Files.{reads, judged, file_limit, DocOf, refused_by, document, leap_named, leap_file, leap_meaning, kernel_document, kernel_meaning, kernel_file, observation_file, observed, KernelRead, OpenedRead, InputsRead, AuditRead, opened_read, inputs_read, candidate_document, audit_read, sc_of}
use Rattle.sk_outcome.specs.Outcome.{requested, commanded, told_or, outcome, outcome_of, publish_of, residuals_of, normal_of, convert_of, sample, invert_of, audit_of, excerpt_of, least_of, plot_of}
use Rattle.sk_outcome.specs.Joined.{over_documents, joined_behind, named_over, joined_kernel}
use Rattle.sk_outcome.specs.Drawn.{new_meaning, second_of, second_named, second_kernel, PlotRead, plot_read}
use Rattle.sk_headline.specs.Uses.{quiet, EachNamed, OneOutcome, NamedFilesAlone}
use Rattle.sk_headline.proofs.Determined.{gives_determined}
use Rattle.sk_headline.proofs.Known.{front_known, others_known, one_known, named_known}
use Rattle.sk_headline.proofs.Commands.{have_bytes, command_determined}
use Rattle.sk_headline.proofs.Complete.{requested_determined}

-- ---- the names of a command's files

-- each file that the options name has the property
pub record EachFile (P : List ℕ → Type 0) (options : Options) : Type 0 where
  pub leap : IfSome (options opt.Leap) P
  pub kernel : IfSome (options opt.Kernel) P
  pub observations : IfSome (options opt.Obs) P
  pub new : IfSome (options opt.New) P
  pub over : All P (option_map_or over_names (options opt.Over) [])

each_file : (P : List ℕ → Type 0) (options : Options) → All P (files_of options) → EachFile P options
each_file P options h =
    let leap = option_to_list (options opt.Leap) in
    let kernel = option_to_list (options opt.Kernel) in
    let observations = option_to_list (options opt.Obs) in
    let new = option_to_list (options opt.New) in
    let over = option_map_or over_names (options opt.Over) [] in
    let four : All P (leap ++ kernel ++ observations ++ new) = front_known P (leap ++ kernel ++ observations ++ new) over h in
    let three : All P (leap ++ kernel ++ observations) = front_known P (leap ++ kernel ++ observations) new four in
    let two : All P (leap ++ kernel) = front_known P (leap ++ kernel) observations three in
    record {
      leap = one_known P (options opt.Leap) (front_known P leap kernel two);
      kernel = one_known P (options opt.Kernel) (others_known P leap kernel two);
      observations = one_known P (options opt.Obs) (others_known P (leap ++ kernel) observations three);
      new = one_known P (options opt.New) (others_known P (leap ++ kernel ++ observations) new four);
      over = others_known P (leap ++ kernel ++ observations ++ new) over h;
    }

-- ---- stages over two sources, of which the second has read no fewer bytes

-- both have the file, and where its count rose in the first it rose in the second
abbrev pub HaveSame : Source → Source → List ℕ → Type 0
HaveSame s u name = (u.holds name ≡ s.holds name) × (s.rose name → u.rose name)

module _ (s u : Source) (read : s.given ≤ u.given) where
  abbrev Same : List ℕ → Type 0
  Same = HaveSame s u

  -- what the first answers the second answers
  abbrev pub Moved : {A : Type 0} → Stage A → Stage A → Type 0
  Moved {A} first second = (r : Result A Status) → first r → second r

  unmoved : {A : Type 0} (stage : Stage A) → Moved stage stage
  unmoved stage r h = h

  then_moved : {A B : Type 0} (first second : Stage A) (next after : A → Stage B) → Moved first second → ((a : A) → Moved (next a) (after a))
      → Moved (first >>= next) (second >>= after)
  then_moved {A} {B} first second next after f g (Ok b) h = (h.0, f (Ok h.0) h.1, g h.0 (Ok b) h.2)
  then_moved {A} {B} first second next after f g (Err status) (inl h) = inl (f (Err status) h)
  then_moved {A} {B} first second next after f g (Err status) (inr h) = inr (h.0, f (Ok h.0) h.1, g h.0 (Err status) h.2)

  reads_moved : (kind : FileKind) (name : List ℕ) → Same name → Moved (reads s kind name) (reads u kind name)
  reads_moved kind name same (Ok bytes) h = (h.0, subst (λ (o : Option (List ℕ)). IfSome o (λ file. bytes ≡ file)) (sym same.0) h.1)
  reads_moved kind name same (Err status) (inl h) = inl (h.0, same.1 h.1)
  reads_moved kind name same (Err status) (inr h) =
      inr (h.0, omega (arith, h.1, read), subst (λ (o : Option (List ℕ)). IfSome o (λ file. file_limit < length file)) (sym same.0) h.2)

  document_moved : (kind : DocumentKind) (name : List ℕ) → Same name → Moved (document s kind name) (document u kind name)
  document_moved kind name same =
      then_moved (reads s (Document kind) name) (reads u (Document kind) name) (λ bytes. judged (DocOf bytes) (refused_by kind)) (λ bytes. judged (DocOf bytes) (refused_by kind))
      (reads_moved (Document kind) name same) (λ bytes. unmoved (judged (DocOf bytes) (refused_by kind)))

  leap_named_moved : (name : Option (List ℕ)) → IfSome name Same → Moved (leap_named s name) (leap_named u name)
  leap_named_moved None same = unmoved (gives {A = List LeapPair} [])
  leap_named_moved (Some name) same =
      then_moved (document s Leap name) (document u Leap name) leap_meaning leap_meaning (document_moved Leap name same) (λ doc. unmoved (leap_meaning doc))

  second_moved : (sc : ℕ) (name : Option (List ℕ)) → IfSome name Same → Moved (second_named s sc name) (second_named u sc name)
  second_moved sc None same = unmoved (gives {A = Option KernelRead} None)
  second_moved sc (Some name) same =
      then_moved (document s New name) (document u New name) (λ doc. new_meaning sc doc >>= (λ kernel. gives (second_of kernel))) (λ doc. new_meaning sc doc >>= (λ kernel. gives (second_of kernel)))
      (document_moved New name same) (λ doc. unmoved (new_meaning sc doc >>= (λ kernel. gives (second_of kernel))))

  over_moved : (place : ℕ) (names : List (List ℕ)) → All Same names → Moved (over_documents s place names) (over_documents u place names)
  over_moved place [] same = unmoved (gives {A = List DocView} [])
  over_moved place (name ∷ names) same =
      then_moved (document s (Over place) name) (document u (Over place) name)
      (λ doc. over_documents s (place + 1) names >>= (λ docs. gives (doc ∷ docs))) (λ doc. over_documents u (place + 1) names >>= (λ docs. gives (doc ∷ docs)))
      (document_moved (Over place) name (same 0 [] (omega arith)))
      (λ doc. then_moved (over_documents s (place + 1) names) (over_documents u (place + 1) names) (λ docs. gives (doc ∷ docs)) (λ docs. gives (doc ∷ docs))
      (over_moved (place + 1) names (others_known Same (name ∷ []) names same)) (λ docs. unmoved (gives (doc ∷ docs))))

  module _ (options : Options) where
    -- the clock kernel is named, and both have it
    abbrev pub HaveKernel : Type 0
    HaveKernel = Same (text_or opt.Kernel options)

    pub kernel_document_moved : HaveKernel → Moved (kernel_document s options) (kernel_document u options)
    kernel_document_moved kernel = document_moved Kernel (text_or opt.Kernel options) kernel

    joined_moved : HaveKernel → All Same (named_over options) → Moved (joined_kernel s options) (joined_kernel u options)
    joined_moved kernel over =
        then_moved (kernel_document s options) (kernel_document u options) (λ first. joined_behind s first (named_over options)) (λ first. joined_behind u first (named_over options))
        (kernel_document_moved kernel)
        (λ first. then_moved (over_documents s 1 (named_over options)) (over_documents u 1 (named_over options)) (λ docs. gives (joined (first ∷ docs))) (λ docs. gives (joined (first ∷ docs)))
        (over_moved 1 (named_over options) over) (λ docs. unmoved (gives (joined (first ∷ docs)))))

    kernel_moved : HaveKernel → Moved (kernel_file s options) (kernel_file u options)
    kernel_moved kernel =
        then_moved (kernel_document s options) (kernel_document u options) (kernel_meaning (sc_of options)) (kernel_meaning (sc_of options))
        (kernel_document_moved kernel) (λ doc. unmoved (kernel_meaning (sc_of options) doc))

    pub opened_moved : IfSome (options opt.Leap) Same → HaveKernel → Moved (opened_read s options) (opened_read u options)
    opened_moved leap kernel =
        then_moved (leap_file s options) (leap_file u options)
        (λ pairs. kernel_file s options >>= (λ old. gives {A = OpenedRead} (record { leap = pairs; kernel = old })))
        (λ pairs. kernel_file u options >>= (λ old. gives {A = OpenedRead} (record { leap = pairs; kernel = old })))
        (leap_named_moved (options opt.Leap) leap)
        (λ pairs. then_moved (kernel_file s options) (kernel_file u options) (λ old. gives {A = OpenedRead} (record { leap = pairs; kernel = old })) (λ old. gives {A = OpenedRead} (record { leap = pairs; kernel = old }))
        (kernel_moved kernel) (λ old. unmoved (gives {A = OpenedRead} (record { leap = pairs; kernel = old }))))

    observations_moved : (opened : OpenedRead) → Same (text_or opt.Obs options) → Moved (observation_file s options opened) (observation_file u options opened)
    observations_moved opened same =
        then_moved (reads s Observations (text_or opt.Obs options)) (reads u Observations (text_or opt.Obs options))
        (λ bytes. observed bytes opened.kernel.clock opened.leap) (λ bytes. observed bytes opened.kernel.clock opened.leap)
        (reads_moved Observations (text_or opt.Obs options) same) (λ bytes. unmoved (observed bytes opened.kernel.clock opened.leap))

    pub inputs_moved : IfSome (options opt.Leap) Same → HaveKernel → Same (text_or opt.Obs options) → Moved (inputs_read s options) (inputs_read u options)
    inputs_moved leap kernel observations =
        then_moved (opened_read s options) (opened_read u options)
        (λ opened. observation_file s options opened >>= (λ rows. gives {A = InputsRead} (record { kernel = opened.kernel; observations = rows })))
        (λ opened. observation_file u options opened >>= (λ rows. gives {A = InputsRead} (record { kernel = opened.kernel; observations = rows })))
        (opened_moved leap kernel)
        (λ opened. then_moved (observation_file s options opened) (observation_file u options opened)
        (λ rows. gives {A = InputsRead} (record { kernel = opened.kernel; observations = rows })) (λ rows. gives {A = InputsRead} (record { kernel = opened.kernel; observations = rows }))
        (observations_moved opened observations) (λ rows. unmoved (gives {A = InputsRead} (record { kernel = opened.kernel; observations = rows }))))

    pub audit_moved : IfSome (options opt.Leap) Same → HaveKernel → Same (text_or opt.Obs options) → Same (text_or opt.New options) → Moved (audit_read s options) (audit_read u options)
    audit_moved leap kernel observations candidate =
        then_moved (inputs_read s options) (inputs_read u options)
        (λ inputs. candidate_document s options >>= (λ doc. gives {A = AuditRead} (record { inputs = inputs; candidate = doc })))
        (λ inputs. candidate_document u options >>= (λ doc. gives {A = AuditRead} (record { inputs = inputs; candidate = doc })))
        (inputs_moved leap kernel observations)
        (λ inputs. then_moved (candidate_document s options) (candidate_document u options)
        (λ doc. gives {A = AuditRead} (record { inputs = inputs; candidate = doc })) (λ doc. gives {A = AuditRead} (record { inputs = inputs; candidate = doc }))
        (document_moved New (text_or opt.New options) candidate) (λ doc. unmoved (gives {A = AuditRead} (record { inputs = inputs; candidate = doc }))))

    plot_moved : IfSome (options opt.Leap) Same → HaveKernel → Same (text_or opt.Obs options) → IfSome (options opt.New) Same → Moved (plot_read s options) (plot_read u options)
    plot_moved leap kernel observations new =
        then_moved (inputs_read s options) (inputs_read u options)
        (λ inputs. second_kernel s options >>= (λ second. gives {A = PlotRead} (record { inputs = inputs; second = second })))
        (λ inputs. second_kernel u options >>= (λ second. gives {A = PlotRead} (record { inputs = inputs; second = second })))
        (inputs_moved leap kernel observations)
        (λ inputs. then_moved (second_kernel s options) (second_kernel u options)
        (λ second. gives {A = PlotRead} (record { inputs = inputs; second = second })) (λ second. gives {A = PlotRead} (record { inputs = inputs; second = second }))
        (second_moved (sc_of options) (options opt.New) new) (λ second. unmoved (gives {A = PlotRead} (record { inputs = inputs; second = second }))))

    -- ---- commands

    given : (name : Option (List ℕ)) → is_none name ≡ false → IfSome name Same → Same (unwrap_or name [])
    given name some same = named_known Same name some same

    command_moved : (command : Command) → AreNamed command options → EachFile Same options → Moved (outcome_of command s options) (outcome_of command u options)
    command_moved Publish named files =
        then_moved (inputs_read s options) (inputs_read u options) (publish_of options) (publish_of options)
        (inputs_moved files.leap (given (options opt.Kernel) named.0 files.kernel) (given (options opt.Obs) named.1 files.observations)) (λ inputs. unmoved (publish_of options inputs))
    command_moved Residuals named files =
        then_moved (inputs_read s options) (inputs_read u options) residuals_of residuals_of
        (inputs_moved files.leap (given (options opt.Kernel) named.0 files.kernel) (given (options opt.Obs) named.1 files.observations)) (λ inputs. unmoved (residuals_of inputs))
    command_moved Normal named files =
        then_moved (kernel_document s options) (kernel_document u options) normal_of normal_of
        (kernel_document_moved (given (options opt.Kernel) named files.kernel)) (λ doc. unmoved (normal_of doc))
    command_moved Convert named files =
        then_moved (opened_read s options) (opened_read u options) (convert_of options) (convert_of options)
        (opened_moved files.leap (given (options opt.Kernel) named files.kernel)) (λ opened. unmoved (convert_of options opened))
    command_moved Sample named files = unmoved (sample s options)
    command_moved Invert named files =
        then_moved (opened_read s options) (opened_read u options) (invert_of options) (invert_of options)
        (opened_moved files.leap (given (options opt.Kernel) named files.kernel)) (λ opened. unmoved (invert_of options opened))
    command_moved Audit named files =
        then_moved (audit_read s options) (audit_read u options) (audit_of options) (audit_of options)
        (audit_moved files.leap (given (options opt.Kernel) named.0 files.kernel) (given (options opt.Obs) named.1 files.observations) (given (options opt.New) named.2 files.new))
        (λ read. unmoved (audit_of options read))
    command_moved Excerpt named files =
        then_moved (joined_kernel s options) (joined_kernel u options) (excerpt_of options) (excerpt_of options)
        (joined_moved (given (options opt.Kernel) named files.kernel) files.over) (λ doc. unmoved (excerpt_of options doc))
    command_moved Least named files =
        then_moved (inputs_read s options) (inputs_read u options) (least_of options) (least_of options)
        (inputs_moved files.leap (given (options opt.Kernel) named.0 files.kernel) (given (options opt.Obs) named.1 files.observations)) (λ inputs. unmoved (least_of options inputs))
    command_moved Plot named files =
        then_moved (plot_read s options) (plot_read u options) (plot_of options) (plot_of options)
        (plot_moved files.leap (given (options opt.Kernel) named.0 files.kernel) (given (options opt.Obs) named.1 files.observations) files.new)
        (λ read. unmoved (plot_of options read))

-- ---- the whole

all_weaker : (P Q : List ℕ → Type 0) (names : List (List ℕ)) → ((name : List ℕ) → P name → Q name) → All P names → All Q names
all_weaker P Q names implies h = λ k d within. implies _ (h k d within)

-- what a request comes to over two sources that both move to a third one
module _ (words : List (List ℕ)) (request : Request) (holds other : List ℕ → Option (List ℕ)) (given more : ℕ) where
  abbrev both : Source
  both = quiet other (given + more)

  abbrev Alike : List ℕ → Type 0
  Alike name = IsSome (holds name) × (other name ≡ holds name)

  known_there : (name : List ℕ) → Alike name → IsSome (other name)
  known_there name h = subst (λ (o : Option (List ℕ)). IsSome o) (sym h.1) h.0

  one_request : requested (codes "station" ∷ words) (Ok request) → All Alike (files_of request.options) → (a b : Result (List ℕ) Status)
      → outcome_of request.command (quiet holds given) request.options a → outcome_of request.command (quiet other more) request.options b → a ≡ b
  one_request asked alike a b h k =
      let named = are_named (codes "station" ∷ words) request asked in
      let before : given ≤ given + more = omega arith in
      let after : more ≤ given + more = omega arith in
      let first = command_moved (quiet holds given) both before request.options request.command named
      (each_file (HaveSame (quiet holds given) both) request.options (all_weaker Alike (HaveSame (quiet holds given) both) (files_of request.options) (λ name p. (p.1, λ r. r)) alike)) a h in
      let second = command_moved (quiet other more) both after request.options request.command named
      (each_file (HaveSame (quiet other more) both) request.options (all_weaker Alike (HaveSame (quiet other more) both) (files_of request.options) (λ name p. (refl, λ r. r)) alike)) b k in
      let known = have_bytes both request.options (all_weaker Alike (λ name. IsSome (other name)) (files_of request.options) known_there alike) in
      command_determined request.command both request.options (λ name r. r) named known a b first second

module _ (words : List (List ℕ)) (holds other : List ℕ → Option (List ℕ)) (given more : ℕ)
    (alike : EachNamed (λ name. IsSome (holds name) × (other name ≡ holds name)) words) where
  abbrev First : Stage (List ℕ)
  First = commanded (codes "station" ∷ words) (quiet holds given)

  abbrev Second : Stage (List ℕ)
  Second = commanded (codes "station" ∷ words) (quiet other more)

  -- two answers to the words alone
  same_request : (p q : Request) → requested (codes "station" ∷ words) (Ok p) → requested (codes "station" ∷ words) (Ok q) → p ≡ q
  same_request p q h k = let e = requested_determined (codes "station" ∷ words) (Ok p) (Ok q) h k in cc

  unrefused : (p : Request) (status : Status) → requested (codes "station" ∷ words) (Ok p) → requested (codes "station" ∷ words) (Err status) → ⊥
  unrefused p status h k = let e = requested_determined (codes "station" ∷ words) (Ok p) (Err status) h k in cc

  -- two answers to what the words ask for
  same_end : (p q : Request) (a b : Result (List ℕ) Status) → requested (codes "station" ∷ words) (Ok p) → requested (codes "station" ∷ words) (Ok q)
      → outcome_of p.command (quiet holds given) p.options a → outcome_of q.command (quiet other more) q.options b → a ≡ b
  same_end p q a b h k first second =
      let back = subst (λ (r : Request). outcome_of r.command (quiet other more) r.options b) (sym (same_request p q h k)) second in
      one_request words p holds other given more h (alike p h) a b first back

  commanded_one : (a b : Result (List ℕ) Status) → First a → Second b → a ≡ b
  commanded_one (Ok x) (Ok y) p q = same_end p.0 q.0 (Ok x) (Ok y) p.1 q.1 p.2 q.2
  commanded_one (Ok x) (Err s) p (inl q) = absurd (unrefused p.0 s p.1 q)
  commanded_one (Ok x) (Err s) p (inr q) = same_end p.0 q.0 (Ok x) (Err s) p.1 q.1 p.2 q.2
  commanded_one (Err s) (Ok y) (inl p) q = absurd (unrefused q.0 s q.1 p)
  commanded_one (Err s) (Ok y) (inr p) q = same_end p.0 q.0 (Err s) (Ok y) p.1 q.1 p.2 q.2
  commanded_one (Err s) (Err t) (inl p) (inl q) = let e = requested_determined (codes "station" ∷ words) (Err s) (Err t) p q in cc
  commanded_one (Err s) (Err t) (inl p) (inr q) = absurd (unrefused q.0 s q.1 p)
  commanded_one (Err s) (Err t) (inr p) (inl q) = absurd (unrefused p.0 t p.1 q)
  commanded_one (Err s) (Err t) (inr p) (inr q) = same_end p.0 q.0 (Err s) (Err t) p.1 q.1 p.2 q.2

  told_one : (topic : Option Topic) (a b : Result (List ℕ) Status) → told_or topic First a → told_or topic Second b → a ≡ b
  told_one None a b h k = commanded_one a b h k
  told_one (Some topic) a b h k = gives_determined (page_of topic) a b h k

  outcome_one : (a b : Result (List ℕ) Status) → outcome words (quiet holds given) a → outcome words (quiet other more) b → a ≡ b
  outcome_one a b h k = told_one (topic_of (codes "station" ∷ words)) a b h k

pub named_files_alone : NamedFilesAlone
named_files_alone = λ words holds other given more a b alike h k. outcome_one words holds other given more alike a b h k

-- what each named file has it has twice
abbrev known_twice : (List ℕ → Option (List ℕ)) → List ℕ → Type 0
known_twice holds name = IsSome (holds name) × (holds name ≡ holds name)

pub one_outcome : OneOutcome
one_outcome = λ words holds given a b known h k.
    outcome_one words holds holds given given
    (λ request asked. all_weaker (λ name. IsSome (holds name)) (known_twice holds) (files_of request.options) (λ name p. (p, refl)) (known request asked)) a b h k
