-- Words that ask about the program ask for no command.
use Rattle.std.proofs.Common.{◌≡◌, ℕ, Bool, true, false, ◌||◌, cond, List, [], ◌∷◌, refl, sym, subst, ◌∙◌, Option, Some, None, Ok}
use Rattle.std.specs.Prelude.{codes}
use Rattle.std.specs.Str.{bytes_eq}
use Rattle.std.specs.Option.{option_map}
use Rattle.std.proofs.lemmas.Bool.{false_from_ne_true}
use Rattle.std.proofs.lemmas.Option.{none-some}
use Rattle.std.proofs.lemmas.Slice.Eq.{bytes_eq-Decides}
use Rattle.clap.specs.Words.{Kinds}
use Rattle.clap.specs.declared.error.kind.ErrorKind.TheVariants as kind
use Rattle.clap.proofs.OnLiterals.{clap_on_literals}
use Rattle.sk_words.specs.declared.tables.Command.{Command}
use Rattle.sk_words.specs.declared.tables.Command.TheVariants.{Publish, Residuals, Normal, Convert, Sample, Invert, Audit, Excerpt, Least, Plot}
use Rattle.sk_words.specs.declared.topic.Topic.TheVariants.{Program, Version, Of}
use Rattle.sk_words.specs.Words.{station, faults, matches}
use Rattle.sk_words.specs.Request.{command_of, word_of}
use Rattle.sk_words.specs.Asked.{Request, WordsAsk}
use Rattle.sk_words.specs.Topics.{topic_of, topic_of_word, topic_of_two, command_by_word}

-- the words ask for some command
abbrev Asks : List (List ℕ) → Type 0
Asks words = (request : Request) × WordsAsk words (Ok request)

some_fault : (words : List (List ℕ)) (k : kind.the_data) (ks : Kinds) → faults words ≡ k ∷ ks → ¬ Asks words
some_fault words k ks e h = let none : [] ≡ k ∷ ks = sym h.1.0 ∙ e in cc

no_command_word : (words : List (List ℕ)) → command_of (matches words) ≡ None → ¬ Asks words
no_command_word words e h = none-some h.0.command (sym e ∙ h.1.2)

-- ---- the words one by one

help_word : (program : List ℕ) → command_of (matches (program ∷ codes "help" ∷ [])) ≡ None
unfolding matches station clap_on_literals
help_word program = refl

help_flag : (program : List ℕ) → faults (program ∷ codes "--help" ∷ []) ≡ kind.DisplayHelp ∷ []
unfolding faults station clap_on_literals
help_flag program = refl

help_letter : (program : List ℕ) → faults (program ∷ codes "-h" ∷ []) ≡ kind.DisplayHelp ∷ []
unfolding faults station clap_on_literals
help_letter program = refl

version_flag : (program : List ℕ) → faults (program ∷ codes "--version" ∷ []) ≡ kind.UnknownArgument ∷ []
unfolding faults station clap_on_literals
version_flag program = refl

version_letter : (program : List ℕ) → faults (program ∷ codes "-V" ∷ []) ≡ kind.UnknownArgument ∷ []
unfolding faults station clap_on_literals
version_letter program = refl

help_command : (program : List ℕ) (command : Command) → faults (program ∷ codes "help" ∷ word_of command ∷ []) ≡ kind.UnknownArgument ∷ []
unfolding faults station clap_on_literals
help_command program Publish = refl
help_command program Residuals = refl
help_command program Normal = refl
help_command program Convert = refl
help_command program Sample = refl
help_command program Invert = refl
help_command program Audit = refl
help_command program Excerpt = refl
help_command program Least = refl
help_command program Plot = refl

-- ---- a word that is none of these

differs : (a b : List ℕ) → (a ≡ b → ⊥) → bytes_eq a b ≡ false
differs a b h = false_from_ne_true (bytes_eq a b) (λ e. h ((bytes_eq-Decides a b).0 e))

no_word : (a b d e f : Bool) → a ≡ false → b ≡ false → d ≡ false → e ≡ false → f ≡ false → cond (a || (b || d)) (Some Program) (cond (e || f) (Some Version) None) ≡ None
no_word a b d e f h i j k l = rw (h, i, j, k, l) refl

one_word : (program word : List ℕ) → Asks (program ∷ word ∷ []) → topic_of_word word ≡ None
one_word program word h =
    let at : (text : List ℕ) → (Asks (program ∷ text ∷ []) → ⊥) → bytes_eq word text ≡ false =
    λ text no. differs word text (λ e. no (subst (λ (w : List ℕ). Asks (program ∷ w ∷ [])) e h)) in
    no_word (bytes_eq word (codes "help")) (bytes_eq word (codes "--help")) (bytes_eq word (codes "-h")) (bytes_eq word (codes "--version")) (bytes_eq word (codes "-V"))
    (at (codes "help") (no_command_word (program ∷ codes "help" ∷ []) (help_word program)))
    (at (codes "--help") (some_fault (program ∷ codes "--help" ∷ []) kind.DisplayHelp [] (help_flag program)))
    (at (codes "-h") (some_fault (program ∷ codes "-h" ∷ []) kind.DisplayHelp [] (help_letter program)))
    (at (codes "--version") (some_fault (program ∷ codes "--version" ∷ []) kind.UnknownArgument [] (version_flag program)))
    (at (codes "-V") (some_fault (program ∷ codes "-V" ∷ []) kind.UnknownArgument [] (version_letter program)))

-- ---- the word help, and a command

no_name : (a b d e f g u p q s : Bool) → a ≡ false → b ≡ false → d ≡ false → e ≡ false → f ≡ false → g ≡ false → u ≡ false → p ≡ false → q ≡ false → s ≡ false
    → option_map (λ (command : Command). Of command)
    (cond a (Some Publish) (cond b (Some Residuals) (cond d (Some Normal) (cond e (Some Convert) (cond f (Some Sample) (cond g (Some Invert) (cond u (Some Audit) (cond p (Some Excerpt) (cond q (Some Least) (cond s (Some Plot) None)))))))))) ≡ None
no_name a b d e f g u p q s h i j k l m r n o t = rw (h, i, j, k, l, m, r, n, o, t) refl

after_help : (program name : List ℕ) → Asks (program ∷ codes "help" ∷ name ∷ []) → option_map (λ (command : Command). Of command) (command_by_word name) ≡ None
after_help program name h =
    let at : (command : Command) → bytes_eq (word_of command) name ≡ false =
    λ command. differs (word_of command) name (λ e. some_fault (program ∷ codes "help" ∷ word_of command ∷ []) kind.UnknownArgument [] (help_command program command)
    (subst (λ (w : List ℕ). Asks (program ∷ codes "help" ∷ w ∷ [])) (sym e) h)) in
    no_name (bytes_eq (word_of Publish) name) (bytes_eq (word_of Residuals) name) (bytes_eq (word_of Normal) name) (bytes_eq (word_of Convert) name) (bytes_eq (word_of Sample) name) (bytes_eq (word_of Invert) name) (bytes_eq (word_of Audit) name) (bytes_eq (word_of Excerpt) name) (bytes_eq (word_of Least) name) (bytes_eq (word_of Plot) name)
    (at Publish) (at Residuals) (at Normal) (at Convert) (at Sample) (at Invert) (at Audit) (at Excerpt) (at Least) (at Plot)

chosen : {A : Type 0} (b : Bool) (x y : Option A) → (b ≡ true → x ≡ None) → y ≡ None → cond b x y ≡ None
chosen true x y h k = h refl
chosen false x y h k = k

two_words : (program word name : List ℕ) → Asks (program ∷ word ∷ name ∷ []) → topic_of_two word name ≡ None
two_words program word name h =
    chosen (bytes_eq word (codes "help")) (option_map (λ (command : Command). Of command) (command_by_word name)) None
    (λ is. after_help program name (subst (λ (w : List ℕ). Asks (program ∷ w ∷ name ∷ [])) ((bytes_eq-Decides word (codes "help")).0 is) h)) refl

pub no_topic : (words : List (List ℕ)) (request : Request) → WordsAsk words (Ok request) → topic_of words ≡ None
no_topic [] request h = refl
no_topic (program ∷ []) request h = refl
no_topic (program ∷ word ∷ []) request h = one_word program word (request, h)
no_topic (program ∷ word ∷ name ∷ []) request h = two_words program word name (request, h)
no_topic (program ∷ word ∷ name ∷ more ∷ words) request h = refl
