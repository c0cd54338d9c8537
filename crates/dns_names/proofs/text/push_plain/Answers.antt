use Rattle.std.proofs.Common.{◌++◌, List, ℕ, ap, ◌∙◌, arith}
use Rattle.dns_names.proofs.TextLemmas.{whole_run, plain_label}
use Rattle.dns_names.proofs.text.push_plain.Goals as goal

pub plain_text-requires : goal.plain_text-requires
plain_text-requires c = whole_run c.args.label.now c.plain_len.result c.plain_len.ensures (omega (arith, c.if-plain_len-label.false))

pub returns : goal.returns
returns c =
    let plain = whole_run c.args.label.now c.plain_len.result c.plain_len.ensures (omega (arith, c.if-plain_len-label.false)) in
    plain_label _ _ _ _ plain (c.in-Ok.ensures.ok ∙ ap (λ (l : List ℕ). c.args.text.now.bytes ++ l) c.plain_text.ensures) c.in-Ok-try_push_str.ensures.ok
