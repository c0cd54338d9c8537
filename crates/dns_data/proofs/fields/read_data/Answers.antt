use Rattle.std.proofs.Common.{◌≡◌, List, ℕ, Option, None, Some, Err, Bool, cond, map, ap, subst}
use Rattle.std.specs.Prelude.{IfSome}
use Rattle.std.specs.Option.{option_copied}
use Rattle.dns_names.specs.Labels.{IsName}
use Rattle.dns_data.specs.Faults.{Reads, ◌>>=◌}
use Rattle.dns_data.specs.Items.{item_of}
use Rattle.dns_data.specs.Rdata.{type_of}
use Rattle.dns_data.specs.Grammar.{IsData}
use Rattle.dns_data.specs.declared.data_fault.DataFault.TheVariants.{TypeNotKept}
use Rattle.dns_data.specs.Reading.{data_at, ended, data_of}
use Rattle.dns_data.proofs.EachLemmas.{found_of}
use Rattle.dns_data.proofs.FieldLaws.{IsOrigin}
use Rattle.dns_data.proofs.DataLaws.{data_found, data_only}
use Rattle.dns_data.proofs.GenericLaws.{generic_passes}
use Rattle.dns_data.proofs.fields.read_data.Goals as goal

origin_is : (origin : Option (List (List ℕ))) → IfSome origin IsName → IsOrigin origin
origin_is None is = tt
origin_is (Some origin) is = is

pub returns-clause-found : goal.returns-clause-found
returns-clause-found c =
    let t = c.args.record_type in
    let origin = option_copied c.args.origin in
    let items = map item_of c.args.items.now in
    found_of (λ made. (type_of made ≡ t) × IsData origin made items) c.whole_data.result (data_of t origin items) c.whole_data.ensures (λ made e. data_found t origin items made (origin_is origin c.reveal_origin.ensures) c.reveal_octets.ensures e)

pub returns-clause-only : goal.returns-clause-only
returns-clause-only c = λ made of spelled.
    let t = c.args.record_type in
    let origin = option_copied c.args.origin in
    let items = map item_of c.args.items.now in
    subst (λ read. Reads (λ made. made) c.whole_data.result read) (data_only t origin items made (origin_is origin c.reveal_origin.ensures) of spelled) c.whole_data.ensures

pub returns-clause-generic : goal.returns-clause-generic
returns-clause-generic c = λ generic.
    let t = c.args.record_type in
    let origin = option_copied c.args.origin in
    let items = map item_of c.args.items.now in
    subst (λ read. Reads (λ made. made) c.whole_data.result read)
    (ap (λ (b : Bool). cond b (Err TypeNotKept) (data_at t origin items >>= ended)) (generic_passes items generic)) c.whole_data.ensures
