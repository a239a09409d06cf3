-- The stages of a run follow their sources: what they answer stands over each source that holds the same files.
use Rattle.std.proofs.Common.{ℕ, ◌+◌, List, [], ◌∷◌, Option, Some, None}
use Rattle.std.specs.Prelude.{codes}
use Rattle.sk_status.specs.declared.status.DocumentKind.{DocumentKind}
use Rattle.sk_grammar.specs.Document.{DocView}
use Rattle.sk_excerpt.specs.Excerpt.{joined}
use Rattle.sk_status.specs.declared.status.DocumentKind.TheVariants.{Leap, Kernel, New, Over}
use Rattle.sk_status.specs.declared.status.FileKind.TheVariants.{Document, Observations}
use Rattle.sk_words.specs.declared.tables.Command.{Command}
use Rattle.sk_words.specs.declared.tables.Command.TheVariants.{Publish, Residuals, Normal, Convert, Sample, Invert, Audit, Excerpt, Least, Plot}
use Rattle.sk_words.specs.declared.tables.OptionName.TheVariants as opt
use Rattle.sk_words.specs.Asked.{Request}
use Rattle.sk_words.specs.Request.{Options, text_or}
use Rattle.sk_words.specs.declared.topic.Topic.{Topic}
use Rattle.sk_words.specs.Help.{page_of}
use Rattle.sk_words.specs.Topics.{topic_of}
use Rattle.sk_outcome.specs.Stage.{Stage, ◌>>=◌, gives}
use Rattle.sk_outcome.specs.Seen.{Source}
use Rattle.sk_outcome.specs.Files.{reads, judged, DocOf, refused_by, document, leap_meaning, leap_named, leap_file, kernel_document, kernel_meaning, kernel_file, observed, observation_file, KernelRead, OpenedRead, InputsRead, AuditRead, opened_read, inputs_read, candidate_document, audit_read, sc_of}
use Rattle.sk_outcome.specs.Outcome.{requested, commanded, told_or, outcome, outcome_of, publish_of, residuals_of, normal_of, convert_of, sample_of, invert_of, audit_of, least_of, excerpt_of, plot_of}
use Rattle.sk_outcome.specs.Sample.{made_inputs}
use Rattle.sk_outcome.specs.Drawn.{new_meaning, second_of, second_named, second_kernel, PlotRead, plot_read}
use Rattle.sk_outcome.specs.Joined.{over_documents, joined_behind, named_over, joined_kernel}
use Rattle.sk_leap.specs.declared.pair.LeapPair.{LeapPair}
use Rattle.sk_outcome.proofs.Moves.{Follows, then_follows, reads_follow, no_reading}

-- ---- files

pub document_follows : (kind : DocumentKind) (name : List ℕ) → Follows (λ s. document s kind name)
document_follows kind name =
    then_follows (λ s. reads s (Document kind) name) (λ s bytes. judged (DocOf bytes) (refused_by kind)) (reads_follow (Document kind) name)
    (λ bytes. no_reading (judged (DocOf bytes) (refused_by kind)))

leap_named_follows : (name : Option (List ℕ)) → Follows (λ s. leap_named s name)
leap_named_follows None = no_reading (gives {A = List LeapPair} [])
leap_named_follows (Some name) =
    then_follows (λ s. document s Leap name) (λ s doc. leap_meaning doc) (document_follows Leap name) (λ doc. no_reading (leap_meaning doc))

pub leap_follows : (options : Options) → Follows (λ s. leap_file s options)
leap_follows options = leap_named_follows (options opt.Leap)

pub kernel_document_follows : (options : Options) → Follows (λ s. kernel_document s options)
kernel_document_follows options = document_follows Kernel (text_or opt.Kernel options)

pub kernel_follows : (options : Options) → Follows (λ s. kernel_file s options)
kernel_follows options =
    then_follows (λ s. kernel_document s options) (λ s doc. kernel_meaning (sc_of options) doc) (kernel_document_follows options)
    (λ doc. no_reading (kernel_meaning (sc_of options) doc))

-- the leap table was read, and the clock kernel follows
abbrev pub kernel_after : Options → Source → List LeapPair → Stage OpenedRead
kernel_after options source leap = kernel_file source options >>= (λ kernel. gives (record { leap = leap; kernel = kernel }))

pub kernel_after_follows : (options : Options) (leap : List LeapPair) → Follows (λ s. kernel_after options s leap)
kernel_after_follows options leap =
    then_follows (λ s. kernel_file s options) (λ s kernel. gives {A = OpenedRead} (record { leap = leap; kernel = kernel })) (kernel_follows options)
    (λ kernel. no_reading (gives {A = OpenedRead} (record { leap = leap; kernel = kernel })))

pub opened_follows : (options : Options) → Follows (λ s. opened_read s options)
opened_follows options = then_follows (λ s. leap_file s options) (kernel_after options) (leap_follows options) (kernel_after_follows options)

observations_follow : (options : Options) (opened : OpenedRead) → Follows (λ s. observation_file s options opened)
observations_follow options opened =
    then_follows (λ s. reads s Observations (text_or opt.Obs options)) (λ s bytes. observed bytes opened.kernel.clock opened.leap)
    (reads_follow Observations (text_or opt.Obs options)) (λ bytes. no_reading (observed bytes opened.kernel.clock opened.leap))

-- both were read, and the observations follow
abbrev pub rows_after : Options → Source → OpenedRead → Stage InputsRead
rows_after options source opened = observation_file source options opened >>= (λ rows. gives (record { kernel = opened.kernel; observations = rows }))

pub rows_after_follow : (options : Options) (opened : OpenedRead) → Follows (λ s. rows_after options s opened)
rows_after_follow options opened =
    then_follows (λ s. observation_file s options opened) (λ s rows. gives {A = InputsRead} (record { kernel = opened.kernel; observations = rows }))
    (observations_follow options opened)
    (λ rows. no_reading (gives {A = InputsRead} (record { kernel = opened.kernel; observations = rows })))

pub inputs_follow : (options : Options) → Follows (λ s. inputs_read s options)
inputs_follow options = then_follows (λ s. opened_read s options) (rows_after options) (opened_follows options) (rows_after_follow options)

-- both of these, and the candidate follows
abbrev pub candidate_after : Options → Source → InputsRead → Stage AuditRead
candidate_after options source inputs = candidate_document source options >>= (λ candidate. gives (record { inputs = inputs; candidate = candidate }))

pub candidate_follows : (options : Options) (inputs : InputsRead) → Follows (λ s. candidate_after options s inputs)
candidate_follows options inputs =
    then_follows (λ s. candidate_document s options) (λ s candidate. gives {A = AuditRead} (record { inputs = inputs; candidate = candidate }))
    (document_follows New (text_or opt.New options))
    (λ candidate. no_reading (gives {A = AuditRead} (record { inputs = inputs; candidate = candidate })))

audit_follows : (options : Options) → Follows (λ s. audit_read s options)
audit_follows options = then_follows (λ s. inputs_read s options) (candidate_after options) (inputs_follow options) (candidate_follows options)

-- ---- a second kernel

pub second_named_follows : (sc : ℕ) (name : Option (List ℕ)) → Follows (λ s. second_named s sc name)
second_named_follows sc None = no_reading (gives {A = Option KernelRead} None)
second_named_follows sc (Some name) =
    then_follows (λ s. document s New name) (λ s doc. new_meaning sc doc >>= (λ kernel. gives (second_of kernel))) (document_follows New name)
    (λ doc. no_reading (new_meaning sc doc >>= (λ kernel. gives (second_of kernel))))

-- what came before was read, and the second kernel follows
abbrev pub second_after : Options → Source → InputsRead → Stage PlotRead
second_after options source inputs = second_kernel source options >>= (λ second. gives (record { inputs = inputs; second = second }))

pub second_follows : (options : Options) (inputs : InputsRead) → Follows (λ s. second_after options s inputs)
second_follows options inputs =
    then_follows (λ s. second_kernel s options) (λ s second. gives {A = PlotRead} (record { inputs = inputs; second = second }))
    (second_named_follows (sc_of options) (options opt.New))
    (λ second. no_reading (gives {A = PlotRead} (record { inputs = inputs; second = second })))

plot_follows : (options : Options) → Follows (λ s. plot_read s options)
plot_follows options = then_follows (λ s. inputs_read s options) (second_after options) (inputs_follow options) (second_follows options)

-- ---- several kernels

pub over_follows : (place : ℕ) (names : List (List ℕ)) → Follows (λ s. over_documents s place names)
over_follows place [] = no_reading (gives {A = List DocView} [])
over_follows place (name ∷ names) =
    then_follows (λ s. document s (Over place) name) (λ s doc. over_documents s (place + 1) names >>= (λ docs. gives {A = List DocView} (doc ∷ docs))) (document_follows (Over place) name)
    (λ doc. then_follows (λ s. over_documents s (place + 1) names) (λ s docs. gives {A = List DocView} (doc ∷ docs)) (over_follows (place + 1) names)
    (λ docs. no_reading (gives {A = List DocView} (doc ∷ docs))))

pub behind_follows : (names : List (List ℕ)) (first : DocView) → Follows (λ s. joined_behind s first names)
behind_follows names first =
    then_follows (λ s. over_documents s 1 names) (λ s docs. gives {A = DocView} (joined (first ∷ docs))) (over_follows 1 names)
    (λ docs. no_reading (gives {A = DocView} (joined (first ∷ docs))))

joined_follows : (options : Options) → Follows (λ s. joined_kernel s options)
joined_follows options =
    then_follows (λ s. kernel_document s options) (λ s first. joined_behind s first (named_over options)) (kernel_document_follows options)
    (behind_follows (named_over options))

-- ---- commands

command_follows : (command : Command) (options : Options) → Follows (λ s. outcome_of command s options)
command_follows Publish options = then_follows (λ s. inputs_read s options) (λ s inputs. publish_of options inputs) (inputs_follow options) (λ inputs. no_reading (publish_of options inputs))
command_follows Residuals options = then_follows (λ s. inputs_read s options) (λ s inputs. residuals_of inputs) (inputs_follow options) (λ inputs. no_reading (residuals_of inputs))
command_follows Normal options = then_follows (λ s. kernel_document s options) (λ s doc. normal_of doc) (kernel_document_follows options) (λ doc. no_reading (normal_of doc))
command_follows Convert options = then_follows (λ s. opened_read s options) (λ s opened. convert_of options opened) (opened_follows options) (λ opened. no_reading (convert_of options opened))
command_follows Sample options = no_reading (made_inputs options >>= sample_of options)
command_follows Invert options = then_follows (λ s. opened_read s options) (λ s opened. invert_of options opened) (opened_follows options) (λ opened. no_reading (invert_of options opened))
command_follows Audit options = then_follows (λ s. audit_read s options) (λ s read. audit_of options read) (audit_follows options) (λ read. no_reading (audit_of options read))
command_follows Excerpt options = then_follows (λ s. joined_kernel s options) (λ s doc. excerpt_of options doc) (joined_follows options) (λ doc. no_reading (excerpt_of options doc))
command_follows Least options = then_follows (λ s. inputs_read s options) (λ s inputs. least_of options inputs) (inputs_follow options) (λ inputs. no_reading (least_of options inputs))
command_follows Plot options = then_follows (λ s. plot_read s options) (λ s read. plot_of options read) (plot_follows options) (λ read. no_reading (plot_of options read))

commanded_follows : (words : List (List ℕ)) → Follows (λ s. commanded words s)
commanded_follows words =
    then_follows (λ s. requested words) (λ s (request : Request). outcome_of request.command s request.options) (no_reading (requested words))
    (λ request. command_follows request.command request.options)

told_follows : (topic : Option Topic) (next : Source → Stage (List ℕ)) → Follows next → Follows (λ s. told_or topic (next s))
told_follows (Some topic) next f = no_reading (gives (page_of topic))
told_follows None next f = f

pub outcome_follows : (words : List (List ℕ)) → Follows (λ s. outcome words s)
outcome_follows words = told_follows (topic_of (codes "station" ∷ words)) (commanded (codes "station" ∷ words)) (commanded_follows (codes "station" ∷ words))
