-- What an update makes of a zone, by its change.
use Rattle.std.proofs.Common.{◌≡◌, length, ◌&&◌, ◌==◌, if◌then◌else◌, Bool, true, false, Option, Some, None, refl, sym, ap, ◌∙◌}
use Rattle.std.specs.FinMap.{len, entries, len-entries}
use Rattle.std.proofs.lemmas.List.{length-map}
use Rattle.dns_data.specs.declared.record.Record.{Record}
use Rattle.zone_core.specs.Sets.{Records, Key, listing, minus, is_same}
use Rattle.zone_core.specs.Zones.{ZoneOf}
use Rattle.zone_core.specs.Updates.{UpdateOf}
use Rattle.zone_core.specs.Effects.{zone_after}
use Rattle.zone_core.specs.Changes.{ChangeOf, is_empty, change_between}
use Rattle.office_model.specs.declared.reply.UpdateReply.{UpdateReply}
use Rattle.office_model.specs.declared.reply.UpdateReply.TheVariants.{NoError}
use Rattle.office_core.specs.Steps.{change_made, Makes}

length-listing : (set : Records) → length (listing set) ≡ len set
length-listing set = length-map (entries set) (λ (e : Key × Record). e.1) ∙ sym (len-entries set)

module _ (before after : Records) (change : ChangeOf) (change_is : change ≡ change_between before after) where
  empty_is : is_empty change ≡ is_same before after
  empty_is = ap is_empty change_is ∙ (λ i. (length-listing (minus before after) i == 0) && (length-listing (minus after before) i == 0))

  made_if : (b : Bool) → is_same before after ≡ b → change_made before after ≡ (if b then None else Some (change_between before after))
  made_if b e = ap (λ (x : Bool). if x then None else Some (change_between before after)) e

  -- nothing has changed
  pub none_made : is_empty change ≡ true → None ≡ change_made before after
  none_made nothing = sym (made_if true (sym empty_is ∙ nothing))

  -- something has
  pub some_made : is_empty change ≡ false → Some change ≡ change_made before after
  some_made something = ap Some change_is ∙ sym (made_if false (sym empty_is ∙ something))

-- an update that is not refused
pub makes : (zone : ZoneOf) (update : UpdateOf) (refused : Option UpdateReply) (change : Option ChangeOf) → None ≡ refused → change ≡ change_made zone.records (zone_after zone update).records → Makes zone update refused NoError change
makes zone update None change none made = (refl, made)
makes zone update (Some refused) change none made = absurd cc
