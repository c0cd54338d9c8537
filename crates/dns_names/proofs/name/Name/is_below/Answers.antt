use Rattle.std.proofs.Common.{ap, ℕ, length, arith}
use Rattle.std.proofs.lemmas.Bool.{le-ltb}
use Rattle.dns_names.proofs.NameLemmas.{below_then, below_else}
use Rattle.dns_names.proofs.name.Name.is_below.Goals as goal

pub returns-then-key : goal.returns-then-key
returns-then-key c =
    below_then c.args.self.now c.args.top.now c.is_within.result (omega (arith, ap (length {A = ℕ}) c.key.ensures.key, ap (length {A = ℕ}) c.key-2.ensures.key, c.if-key.true)) c.is_within.ensures.test

pub returns-else-key : goal.returns-else-key
returns-else-key c =
    below_else c.args.self.now c.args.top.now _ (omega (arith, ap (length {A = ℕ}) c.key.ensures.key, ap (length {A = ℕ}) c.key-2.ensures.key, c.if-key.false)) (le-ltb _ _ c.if-key.false)
