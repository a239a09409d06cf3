use Rattle.std.proofs.Common.{◌≡◌, ◌⊎◌, List, [], ◌∷◌, ℕ, subst, sym, inr}
use Rattle.sk_checks.specs.Checks.{NoneRefuses, FirstRefuses, carried}
use Rattle.sk_obs.specs.declared.fault.ClockWordStop.{ClockWordStop}
use Rattle.sk_obs.specs.declared.fault.ClockWordStop.TheVariants.{Refused}
use Rattle.sk_obs.specs.declared.fault.ClockWordStop.TheVariants as word
use Rattle.sk_obs.specs.declared.hex_text.CodeStop.TheVariants as stop
use Rattle.sk_obs.specs.declared.fault.ClockWord.TheVariants.{Text}
use Rattle.sk_obs.specs.Words.{hex_checks, IsCucHex, form_checks, CodeBytes, IsTickOf}
use Rattle.sk_obs.proofs.CodeWords.{code_stopped, code_refused, code_ok}
use Rattle.sk_obs.proofs.Judging.{carried-ok, carried-err}
use Rattle.sk_obs.proofs.code_word.code_tick.Goals as goal

pub returns-in-Ok-ticks_of_cuc : goal.returns-in-Ok-ticks_of_cuc
returns-in-Ok-ticks_of_cuc c =
    let none = subst (λ (text : List ℕ). NoneRefuses (hex_checks text)) c.behind_slash.ensures c.in-Ok-cuc_of.ensures.0 in
    let is_code = subst (λ (text : List ℕ). IsCucHex text c.in-Ok-cuc_of.code) c.behind_slash.ensures c.in-Ok-cuc_of.ensures.1 in
    carried-ok Refused (form_checks c.args.clock.now (CodeBytes c.args.word.now)) (IsTickOf c.args.clock.now (CodeBytes c.args.word.now)) c.in-Ok-ticks_of_cuc.tick
    (code_ok c.args.clock.now c.args.word.now c.in-Ok.named c.in-Ok-cuc_of.code c.in-Ok-ticks_of_cuc.tick c.in-Ok.ensures.1 none is_code c.in-Ok-ticks_of_cuc.ensures.0 c.in-Ok-ticks_of_cuc.ensures.1)

pub returns-in-Err-ticks_of_cuc : goal.returns-in-Err-ticks_of_cuc
returns-in-Err-ticks_of_cuc c =
    let none = subst (λ (text : List ℕ). NoneRefuses (hex_checks text)) c.behind_slash.ensures c.in-Ok-cuc_of.ensures.0 in
    let is_code = subst (λ (text : List ℕ). IsCucHex text c.in-Ok-cuc_of.code) c.behind_slash.ensures c.in-Ok-cuc_of.ensures.1 in
    inr (carried-err Refused (form_checks c.args.clock.now (CodeBytes c.args.word.now)) (Text c.in-Err-ticks_of_cuc.fault)
    (code_refused c.args.clock.now c.args.word.now c.in-Ok.named c.in-Ok-cuc_of.code c.in-Err-ticks_of_cuc.fault c.in-Ok.ensures.1 none is_code c.in-Err-ticks_of_cuc.ensures))

pub returns-in-Err-cuc_of : goal.returns-in-Err-cuc_of
returns-in-Err-cuc_of c =
    let why = subst (λ (text : List ℕ). (c.in-Err-cuc_of.stop ≡ stop.NoMemory) ⊎ FirstRefuses (hex_checks text) c.in-Err-cuc_of.stop) c.behind_slash.ensures c.in-Err-cuc_of.ensures in
    subst (λ (fault : ClockWordStop). (fault ≡ word.NoMemory) ⊎ FirstRefuses (carried (FirstRefuses (form_checks c.args.clock.now (CodeBytes c.args.word.now))) Refused ∷ []) fault) (sym c.word_stop.ensures)
    (code_stopped c.args.clock.now c.args.word.now c.in-Ok.named c.in-Err-cuc_of.stop c.in-Ok.ensures.1 why)
