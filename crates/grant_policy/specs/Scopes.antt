-- Which names a rule speaks of.
use Rattle.std.specs.Prelude.{◌≡◌, ℕ, List, Bool, ◌&&◌, not}
use Rattle.dns_names.specs.Labels.{IsWithin, IsBelow, is_within}
use Rattle.dns_names.specs.Order.{same_name}
use Rattle.grant_policy.specs.declared.scope.Scope.{Scope}
use Rattle.grant_policy.specs.declared.scope.Scope.TheVariants.{Name, Subtree, Below}

-- the name itself; it and its subdomains (RFC 1034 section 3.1); its subdomains alone
abbrev pub Covers : Scope → List (List ℕ) → List (List ℕ) → Type 0
Covers Name at name = name ≡ at
Covers Subtree at name = IsWithin name at
Covers Below at name = IsBelow name at

-- whether it is so
abbrev pub covers : Scope → List (List ℕ) → List (List ℕ) → Bool
covers Name at name = same_name name at
covers Subtree at name = is_within name at
covers Below at name = is_within name at && not (same_name name at)
