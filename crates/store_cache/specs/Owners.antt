-- Which records of a zone are meant, by their owners.
use Rattle.std.specs.Prelude.{ℕ, List, Bool}
use Rattle.zone_core.specs.Sets.{Key, at_name, within}
use Rattle.store_cache.specs.declared.owners.Owners.{Owners}
use Rattle.store_cache.specs.declared.owners.Owners.TheVariants.{At, Within}

-- whether a key has such an owner
abbrev pub has_key : Owners → Key → Bool
has_key (At name) k = at_name name.now k
has_key (Within name) k = within name.now k

-- the first of such owners in canonical order
abbrev pub first_name : Owners → List (List ℕ)
first_name (At name) = name.now
first_name (Within name) = name.now
