use Rattle.std.proofs.Common.{◌≡◌, ℕ, ◌+◌, ◌-◌, ◌∷◌, ◌++◌, Option, length, take, drop, ap, ◌∙◌, arith, length-drop}
use Rattle.std.specs.Option.{option_to_list}
use Rattle.std.proofs.lemmas.List.{length-take}
use Rattle.sk_cuc.specs.Code.{basic, fraction}
use Rattle.sk_cuc.proofs.CodeLemmas.{code_written, field_along, front_along}
use Rattle.sk_cuc.proofs.any.AnyCuc.write_into.Goals as goal

pub returns-clause-written : goal.returns-clause-written
returns-clause-written c =
    let code = c.args.self.now in
    let head = c.head_octets-head.result in
    let end = head + c.basic-basic.result + c.fraction.result in
    let is_head : head ≡ 1 + length (option_to_list code.second) = c.head_octets-head.ensures ∙ ap (λ (o : Option ℕ). 1 + length (option_to_list o)) c.second_octet.ensures in
    let wide = c.basic-basic.ensures.value in
    let deep = c.fraction.ensures.value in
    let is_end : end ≡ head + basic code + fraction code = omega (arith, wide, deep) in
    let front = front_along c.first_octet.result code.first c.second_octet-2.result code.second head c.args.buf.now c.put_head.new.buf c.first_octet.ensures.value c.second_octet-2.ensures is_head c.put_head.ensures in
    let width : length (take (end - head) (drop head c.put_head.new.buf)) - c.basic-basic.result ≡ fraction code =
    omega (arith, length-take (end - head) (drop head c.put_head.new.buf), length-drop head c.put_head.new.buf, c.put_head.auto.buf, wide, deep, c.if-buf-end.false) in
    code_written code c.args.buf.now c.put_head.new.buf c.put_parts.new.buf head end is_head is_end c.if-buf-end.false front c.first_octet.ensures.valid
    (field_along c.basic-basic.result _ c.coarse.result c.fine.result (basic code) (fraction code) code.coarse code.fine c.put_parts.new.buf wide width c.coarse.ensures.value c.fine.ensures.value c.put_parts.ensures)

pub returns-clause-length : goal.returns-clause-length
returns-clause-length c =
    omega (arith, c.head_octets-head.ensures, ap (λ (o : Option ℕ). length (option_to_list o)) c.second_octet.ensures, c.basic-basic.ensures.value, c.fraction.ensures.value)
