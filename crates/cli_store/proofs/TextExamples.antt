-- What is printed of small examples.
use Rattle.std.proofs.Common.{◌≡◌, ℕ, List, [], ◌∷◌, ◌++◌, Option, Some, None, refl}
use Rattle.std.specs.Prelude.{codes}
use Rattle.std.specs.Fmt.{digits}
use Rattle.dns_data.specs.declared.record.Record.{Record}
use Rattle.dns_data.specs.declared.rdata.Data.TheVariants.{Ns}
use Rattle.zone_core.specs.declared.update.Prerequisite.TheVariants.{NameUsed}
use Rattle.zone_core.specs.declared.update.Operation.TheVariants.{Add, DeleteName}
use Rattle.zone_core.specs.declared.update.ItemList.TheVariants.{Operations}
use Rattle.zone_core.specs.Changes.{ChangeOf}
use Rattle.office_model.specs.declared.reply.UpdateReply.TheVariants.{NoError, Refused}
use Rattle.store_rows.specs.declared.ordered.KeptReceipt.{KeptReceipt}
use Rattle.cli_core.specs.declared.job.TextForm.TheVariants.{Plain}
use Rattle.cli_store.specs.declared.log_choice.LogAsked.{LogAsked}
use Rattle.cli_store.specs.declared.zone_list.ZoneSummary.{ZoneSummary}
use Rattle.cli_store.specs.Log.{log_text}
use Rattle.cli_store.specs.ZoneList.{zones_text}

-- lines, each with its end
abbrev lines : List (List ℕ) → List ℕ
lines [] = []
lines (l ∷ ls) = l ++ (10 ∷ []) ++ lines ls

-- ---- a zone `t.` with two changes, and receipts of two callers, one of another zone

abbrev origin : List (List ℕ)
origin = codes "t" ∷ []

abbrev www : List (List ℕ)
www = codes "www" ∷ codes "t" ∷ []

abbrev ftp : List (List ℕ)
ftp = codes "ftp" ∷ codes "t" ∷ []

abbrev served : List (List ℕ) → ℕ → Record
served owner ttl = record { owner = owner; ttl = ttl; rdata = Ns (codes "ns" ∷ codes "t" ∷ []) }

abbrev changes : List ChangeOf
changes =
    record { removed = []; added = served www 60 ∷ [] } ∷ record { removed = served www 60 ∷ []; added = served www 300 ∷ served ftp 300 ∷ [] } ∷ []

abbrev kept : List KeptReceipt
kept =
    record {
      caller = codes "alice";
      id = codes "a1";
      receipt = record { origin = origin; update = record { prerequisites = NameUsed www ∷ []; operations = Add (served ftp 300) ∷ [] }; reply = NoError };
    }
    ∷ record {
      caller = codes "alice";
      id = codes "a2";
      receipt = record { origin = codes "u" ∷ []; update = record { prerequisites = []; operations = [] }; reply = NoError };
    }
    ∷ record {
      caller = codes "bob";
      id = codes "b1";
      receipt = record { origin = origin; update = record { prerequisites = []; operations = DeleteName www ∷ [] }; reply = Refused (record { list = Operations; item = 0 }) None };
    }
    ∷ []

abbrev asked : Option ℕ → Option (List (List ℕ)) → Option (List ℕ) → LogAsked
asked from name caller = record { origin = origin; from = from; name = name; caller = caller; form = Plain }

abbrev first_change : List ℕ
first_change = lines (codes "change 1" ∷ codes "+ www.t. 60 IN NS ns.t." ∷ [])

abbrev second_change : List ℕ
second_change = lines (codes "change 2" ∷ codes "- www.t. 60 IN NS ns.t." ∷ codes "+ www.t. 300 IN NS ns.t." ∷ codes "+ ftp.t. 300 IN NS ns.t." ∷ [])

abbrev receipt_of_alice : List ℕ
receipt_of_alice = lines (codes "receipt alice a1 NOERROR" ∷ codes "name-used www.t." ∷ codes "add ftp.t. 300 NS ns.t." ∷ [])

abbrev receipt_of_bob : List ℕ
receipt_of_bob = lines (codes "receipt bob b1 REFUSED operations 0 closing" ∷ codes "delete-name www.t." ∷ [])

-- with neither option all changes, and the receipts of the zone
all : log_text (asked None None None) changes kept ≡ (first_change ++ second_change) ++ (receipt_of_alice ++ receipt_of_bob)
unfolding digits
all = refl

-- with a number the changes from it on
from_two : log_text (asked (Some 2) None None) changes kept ≡ second_change
unfolding digits
from_two = refl

-- with a caller its receipts
of_bob : log_text (asked None None (Some (codes "bob"))) changes kept ≡ receipt_of_bob
unfolding digits
of_bob = refl

-- with both, both
of_both : log_text (asked (Some 2) None (Some (codes "bob"))) changes kept ≡ second_change ++ receipt_of_bob
unfolding digits
of_both = refl

-- with a name what has a record or an item within it, whole
within_ftp : log_text (asked None (Some ftp) None) changes kept ≡ second_change ++ receipt_of_alice
unfolding digits
within_ftp = refl

-- ---- zones

abbrev zone_t : ZoneSummary
zone_t = record { origin = origin; serial = 7; records = 4; changes = 2 }

abbrev zone_v : ZoneSummary
zone_v = record { origin = codes "v" ∷ []; serial = 1; records = 2; changes = 0 }

abbrev line_of_t : List ℕ
line_of_t = lines (codes "t. serial 7 records 4 changes 2 receipts 2" ∷ [])

abbrev line_of_v : List ℕ
line_of_v = lines (codes "v. serial 1 records 2 changes 0 receipts 0" ∷ [])

with_others : zones_text (zone_t ∷ zone_v ∷ []) kept ≡ line_of_t ++ (line_of_v ++ lines (codes "elsewhere receipts 1" ∷ []))
unfolding digits
with_others = refl

-- nothing is told of other origins, if no receipt is of one
without_others : zones_text (zone_v ∷ []) [] ≡ line_of_v
unfolding digits
without_others = refl

without_zones : zones_text [] kept ≡ lines (codes "elsewhere receipts 3" ∷ [])
unfolding digits
without_zones = refl
