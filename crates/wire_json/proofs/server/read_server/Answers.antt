use Rattle.serde_json.specs.View.{items_view}
use Rattle.wire_json.proofs.AddressLemmas.{addresses_found}
use Rattle.wire_json.proofs.server.read_server.Goals as goal

pub returns-clause-found : goal.returns-clause-found
returns-clause-found c =
    let ds = items_view c.in_ok-items.items.now in
    record {
      fields = c.in_ok-check_fields.ensures.found;
      name_is = c.in_ok-name.ensures.found;
      addresses_are = (ds, c.in_ok-items.ensures.found, addresses_found c.in_ok-addresses.addresses.items ds c.in_ok-addresses.ensures);
    }
