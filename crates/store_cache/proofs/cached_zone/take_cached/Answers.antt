use Rattle.std.proofs.Common.{◌≡◌, Bool, true, false, not, sym, ap, ◌∙◌}
use Rattle.dns_names.proofs.NameLemmas.{same_name-Decides}
use Rattle.store_cache.specs.Cache.{cached_in, current_zone}
use Rattle.zone_core.proofs.RowLemmas.{listing_of}
use Rattle.store_cache.proofs.cached_zone.take_cached.Goals as goal

not_unlike : (b : Bool) → not b ≡ false → b ≡ true
not_unlike true e = cc
not_unlike false e = cc

pub returns-clause-found : goal.returns-clause-found
returns-clause-found c =
    record {
      zone = current_zone c.in-Some.cached;
      is_cached = ap cached_in (sym c.take.ensures.value ∙ c.in-Some.is);
      own = (same_name-Decides c.in-Some.cached.origin c.args.origin.now).0 (not_unlike _ (sym c.ne.ensures ∙ c.if-ne.false));
      records = c.in_ok-into_rows.ensures.value ∙ sym (listing_of c.in-Some.cached.rows c.in_ok-into_rows.ensures.rows);
    }
