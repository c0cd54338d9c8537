use Rattle.std.proofs.Common.{ap, filter, refl, sym, subst, ◌∙◌}
use Rattle.zone_core.specs.Sets.{InOrder, key_of, within}
use Rattle.zone_core.proofs.RowLemmas.{InOrder-filter}
use Rattle.dns_data.specs.Rdata.{type_of}
use Rattle.grant_policy.specs.Grants.{includes}
use Rattle.office_model.specs.Tables.{included}
use Rattle.store_cache.specs.Cache.{current_zone}
use Rattle.store_cache.proofs.CacheLemmas.{records_are}
use Rattle.store_cache.proofs.cached_zone.subtree_of_cached.Goals as goal

pub returns-in_ok-included_within-in-Some-clause-found : goal.returns-in_ok-included_within-in-Some-clause-found
returns-in_ok-included_within-in-Some-clause-found c =
    let rows = c.in-Some.cached.now.rows in
    record {
      zone = current_zone c.in-Some.cached.now;
      is_cached = c.in-Some.ensures.found.0;
      own = c.in-Some.ensures.found.1;
      records = c.in_ok-included_within-in-Some.ensures.value ∙ ap (included c.args.grants.now) (records_are rows (filter (λ r. within c.args.top.now (key_of r)) rows) (within c.args.top.now) c.in_ok-included_within-in-Some.ensures.rows refl);
    }

pub returns-in_ok-included_within-in-Some-clause-order : goal.returns-in_ok-included_within-in-Some-clause-order
returns-in_ok-included_within-in-Some-clause-order c =
    let rows = c.in-Some.cached.now.rows in
    let grants = c.args.grants.now in
    subst InOrder (sym c.in_ok-included_within-in-Some.ensures.value)
    (InOrder-filter (λ r. includes grants r.owner (type_of r.rdata)) (filter (λ r. within c.args.top.now (key_of r)) rows) (InOrder-filter (λ r. within c.args.top.now (key_of r)) rows c.in_ok-included_within-in-Some.ensures.rows))
