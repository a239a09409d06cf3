use Rattle.std.proofs.Common.{◌≡◌, ◌+◌, ◌-◌, length, take, drop, set, ◌∙◌, subst, sym, ℕ, arith, length-drop, length-set}
use Rattle.std.proofs.lemmas.List.{length-take}
use Rattle.sk_cds.specs.Code.{IsPField}
use Rattle.sk_cds.proofs.CodeLemmas.{code_written, field_along}
use Rattle.sk_cds.proofs.any.AnyCds.write_into.Goals as goal

pub returns-clause-written : goal.returns-clause-written
returns-clause-written c =
    let code = c.args.self.now in
    let w = c.widths-day_octets.ensures in
    let wide : c.from.result ≡ code.day_octets = c.from.ensures ∙ w.day in
    let deep : c.from-2.result ≡ code.sub_octets = c.from-2.ensures ∙ w.sub in
    let again : c.from-3.result ≡ code.day_octets = c.from-3.ensures ∙ w.day in
    let end = 1 + c.from.result + 4 + c.from-2.result in
    let is_end : end ≡ 1 + code.day_octets + 4 + code.sub_octets = omega (arith, wide, deep) in
    let octet : IsPField c.p_field.result code.day_octets code.sub_octets =
    subst (λ (n : ℕ). IsPField c.p_field.result n code.sub_octets) w.day (subst (λ (n : ℕ). IsPField c.p_field.result c.widths-day_octets.result.0 n) w.sub c.p_field.ensures) in
    let rest : length (take (end - 1) (drop 1 (set c.args.buf.now 0 c.p_field.result))) - (c.from-3.result + 4) ≡ code.sub_octets =
    omega (arith, length-take (end - 1) (drop 1 (set c.args.buf.now 0 c.p_field.result)), length-drop 1 (set c.args.buf.now 0 c.p_field.result), length-set c.args.buf.now 0 c.p_field.result, wide, deep, again, c.if-buf-end.false) in
    code_written code c.args.buf.now c.put_parts.new.buf c.p_field.result end is_end c.if-buf-end.false octet
    (field_along c.from-3.result _ c.day.result c.ms.result c.sub.result code.day_octets code.sub_octets code.day code.ms code.sub c.put_parts.new.buf again rest c.day.ensures c.ms.ensures c.sub.ensures c.put_parts.ensures)
