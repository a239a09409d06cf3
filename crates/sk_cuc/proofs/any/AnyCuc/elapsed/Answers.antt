use Rattle.std.proofs.Common.{rules, ◌≡◌, ℕ, ◌+◌, ◌*◌, ◌/◌, ◌^◌, refl, ap, ◌∙◌, FitsSigned, pos, ◌-ℤ◌}
use Rattle.std.specs.Int.{w128}
use Rattle.std.proofs.lemmas.Int.{to_z-of_z}
use Rattle.sk_octets.proofs.OctetLemmas.{octet_power}
use Rattle.sk_cuc.specs.Code.{fraction}
use Rattle.sk_cuc.proofs.TimeLemmas.{cuc_time}
use Rattle.sk_cuc.proofs.any.AnyCuc.elapsed.Goals as goal

pub returns : goal.returns
returns c =
    let code = c.args.self.now in
    let fits : FitsSigned w128 c.shifted.result = search rules in
    let units : c.scaled.result ≡ code.coarse * 10 ^ 12 + code.fine * 10 ^ 12 / 256 ^ fraction code =
    c.scaled.ensures.value ∙ ap (λ (n : ℕ). n * 10 ^ 12 + c.fine.result * 10 ^ 12 / 256 ^ c.fraction.result) c.coarse.ensures.value
    ∙ ap (λ (n : ℕ). code.coarse * 10 ^ 12 + n * 10 ^ 12 / 256 ^ c.fraction.result) c.fine.ensures.value
    ∙ ap (λ (n : ℕ). code.coarse * 10 ^ 12 + code.fine * 10 ^ 12 / 256 ^ n) c.fraction.ensures.value in
    simp to_z-of_z (cuc_time code.coarse code.fine (256 ^ fraction code) (code.coarse * 10 ^ 12) (code.fine * 10 ^ 12 / 256 ^ fraction code) (pos (32184 * 10 ^ 9) -ℤ pos (1325419200 * 10 ^ 12)) c.shifted.result
    (octet_power (fraction code)) refl refl (c.shifted.ensures ∙ ap (λ (n : ℕ). pos n -ℤ pos 1325419167816000000000) units))
