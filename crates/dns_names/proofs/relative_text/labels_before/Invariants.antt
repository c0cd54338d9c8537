use Rattle.std.proofs.Common.{◌≡◌, ℕ, ◌+◌, ◌-◌, length, take}
use Rattle.dns_names.proofs.relative_text.labels_before.Given as goal

-- so many labels are gone from the end
abbrev pub invariant-loop : goal.invariant-loop
invariant-loop l = (gone : ℕ) × (gone + length l.iterator' ≡ length l.origin) × (l.before ≡ take (length l.name - gone) l.name)
