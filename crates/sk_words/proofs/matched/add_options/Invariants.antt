use Rattle.std.proofs.Common.{◌≡◌, map, drop}
use Rattle.clap.specs.Words.{app_of}
use Rattle.sk_words.specs.Words.{with_options}
use Rattle.sk_words.proofs.matched.add_options.Given as goal

-- the options that are left, added to what is built so far, make the whole
abbrev pub invariant-loop-name : goal.invariant-loop-name
invariant-loop-name l = with_options (map (λ n. n.now) (drop l.name-index l.names)) (app_of l.command) ≡ with_options (map (λ n. n.now) l.names) (app_of l.fn.command)
