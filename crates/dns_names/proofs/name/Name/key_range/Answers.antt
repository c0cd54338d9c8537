use Rattle.std.proofs.Common.{ℕ, length, ap, sym, ◌∙◌, arith}
use Rattle.dns_names.proofs.KeyLaws.{end_of_root, end_of_other}
use Rattle.dns_names.proofs.name.Name.key_range.Goals as goal

pub returns-then-is_empty-clause-end : goal.returns-then-is_empty-clause-end
returns-then-is_empty-clause-end c = end_of_root c.args.self.now (ap (length {A = ℕ}) (sym c.key-first.ensures.key) ∙ grind (arith, c.is_empty.ensures, c.if-is_empty.true))

pub returns-clause-end : goal.returns-clause-end
returns-clause-end c =
    end_of_other c.args.self.now c.key-first.result.now c.in_ok-end.end.items c.key-first.ensures.key (grind (arith, c.is_empty.ensures, c.if-is_empty.false)) c.in_ok-end.ensures.items
