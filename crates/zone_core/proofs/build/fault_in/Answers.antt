use Rattle.std.proofs.Common.{◌≡◌, length, true, false, ◌==◌, nat_lt, sym, ◌∙◌}
use Rattle.dns_data.specs.declared.record_type.RecordType.TheVariants.{Ns}
use Rattle.zone_core.specs.Sets.{set_of, count, has, at}
use Rattle.zone_core.specs.Zones.{is_soa}
use Rattle.zone_core.proofs.FaultLemmas.{fault_by, fault_of_row, outs, elsewheres, two_cnames, cnames_and_others, no_soa, some_soa, several_soas, one_soa}
use Rattle.zone_core.proofs.build.fault_in.Goals as goal

pub returns-then-is_root : goal.returns-then-is_root
returns-then-is_root c =
    let origin = c.args.origin.now in
    let rs = c.args.records.now in
    let root : true ≡ (length origin == 0) = sym c.if-is_root.true ∙ c.is_root.ensures in
    (λ i. fault_by (root i) (outs origin rs) (elsewheres origin rs) (count (set_of rs) is_soa == 0) (nat_lt 1 (count (set_of rs) is_soa)) (has (set_of rs) (at origin Ns)) (two_cnames origin rs) (cnames_and_others origin rs)) ∙ fault_of_row origin rs c.requires

pub returns-then-some_outside : goal.returns-then-some_outside
returns-then-some_outside c =
    let origin = c.args.origin.now in
    let rs = c.args.records.now in
    let root : false ≡ (length origin == 0) = sym c.if-is_root.false ∙ c.is_root.ensures in
    let out : true ≡ (outs origin rs) = sym c.if-some_outside.true ∙ c.some_outside.ensures in
    (λ i. fault_by (root i) (out i) (elsewheres origin rs) (count (set_of rs) is_soa == 0) (nat_lt 1 (count (set_of rs) is_soa)) (has (set_of rs) (at origin Ns)) (two_cnames origin rs) (cnames_and_others origin rs)) ∙ fault_of_row origin rs c.requires

pub returns-then-some_soa_elsewhere : goal.returns-then-some_soa_elsewhere
returns-then-some_soa_elsewhere c =
    let origin = c.args.origin.now in
    let rs = c.args.records.now in
    let root : false ≡ (length origin == 0) = sym c.if-is_root.false ∙ c.is_root.ensures in
    let out : false ≡ (outs origin rs) = sym c.if-some_outside.false ∙ c.some_outside.ensures in
    let elsewhere : true ≡ (elsewheres origin rs) = sym c.if-some_soa_elsewhere.true ∙ c.some_soa_elsewhere.ensures in
    (λ i. fault_by (root i) (out i) (elsewhere i) (count (set_of rs) is_soa == 0) (nat_lt 1 (count (set_of rs) is_soa)) (has (set_of rs) (at origin Ns)) (two_cnames origin rs) (cnames_and_others origin rs)) ∙ fault_of_row origin rs c.requires

pub returns-then-soas-eq0 : goal.returns-then-soas-eq0
returns-then-soas-eq0 c =
    let origin = c.args.origin.now in
    let rs = c.args.records.now in
    let root : false ≡ (length origin == 0) = sym c.if-is_root.false ∙ c.is_root.ensures in
    let out : false ≡ (outs origin rs) = sym c.if-some_outside.false ∙ c.some_outside.ensures in
    let elsewhere : false ≡ (elsewheres origin rs) = sym c.if-some_soa_elsewhere.false ∙ c.some_soa_elsewhere.ensures in
    let none : true ≡ (count (set_of rs) is_soa == 0) = no_soa c.soas.result (count (set_of rs) is_soa) c.soas.ensures c.if-soas-eq0.true in
    (λ i. fault_by (root i) (out i) (elsewhere i) (none i) (nat_lt 1 (count (set_of rs) is_soa)) (has (set_of rs) (at origin Ns)) (two_cnames origin rs) (cnames_and_others origin rs)) ∙ fault_of_row origin rs c.requires

pub returns-then-soas-gt1 : goal.returns-then-soas-gt1
returns-then-soas-gt1 c =
    let origin = c.args.origin.now in
    let rs = c.args.records.now in
    let root : false ≡ (length origin == 0) = sym c.if-is_root.false ∙ c.is_root.ensures in
    let out : false ≡ (outs origin rs) = sym c.if-some_outside.false ∙ c.some_outside.ensures in
    let elsewhere : false ≡ (elsewheres origin rs) = sym c.if-some_soa_elsewhere.false ∙ c.some_soa_elsewhere.ensures in
    let none : false ≡ (count (set_of rs) is_soa == 0) = some_soa c.soas.result (count (set_of rs) is_soa) c.soas.ensures c.if-soas-eq0.false in
    let several : true ≡ (nat_lt 1 (count (set_of rs) is_soa)) = several_soas c.soas-else-soas-eq0.result (count (set_of rs) is_soa) c.soas-else-soas-eq0.ensures c.if-soas-gt1.true in
    (λ i. fault_by (root i) (out i) (elsewhere i) (none i) (several i) (has (set_of rs) (at origin Ns)) (two_cnames origin rs) (cnames_and_others origin rs)) ∙ fault_of_row origin rs c.requires

pub returns-then-not-has_set : goal.returns-then-not-has_set
returns-then-not-has_set c =
    let origin = c.args.origin.now in
    let rs = c.args.records.now in
    let root : false ≡ (length origin == 0) = sym c.if-is_root.false ∙ c.is_root.ensures in
    let out : false ≡ (outs origin rs) = sym c.if-some_outside.false ∙ c.some_outside.ensures in
    let elsewhere : false ≡ (elsewheres origin rs) = sym c.if-some_soa_elsewhere.false ∙ c.some_soa_elsewhere.ensures in
    let none : false ≡ (count (set_of rs) is_soa == 0) = some_soa c.soas.result (count (set_of rs) is_soa) c.soas.ensures c.if-soas-eq0.false in
    let several : false ≡ (nat_lt 1 (count (set_of rs) is_soa)) = one_soa c.soas-else-soas-eq0.result (count (set_of rs) is_soa) c.soas-else-soas-eq0.ensures c.if-soas-gt1.false in
    let served : false ≡ (has (set_of rs) (at origin Ns)) = sym c.if-not-has_set.true ∙ c.has_set.ensures in
    (λ i. fault_by (root i) (out i) (elsewhere i) (none i) (several i) (served i) (two_cnames origin rs) (cnames_and_others origin rs)) ∙ fault_of_row origin rs c.requires

pub returns-then-has_two_cnames : goal.returns-then-has_two_cnames
returns-then-has_two_cnames c =
    let origin = c.args.origin.now in
    let rs = c.args.records.now in
    let root : false ≡ (length origin == 0) = sym c.if-is_root.false ∙ c.is_root.ensures in
    let out : false ≡ (outs origin rs) = sym c.if-some_outside.false ∙ c.some_outside.ensures in
    let elsewhere : false ≡ (elsewheres origin rs) = sym c.if-some_soa_elsewhere.false ∙ c.some_soa_elsewhere.ensures in
    let none : false ≡ (count (set_of rs) is_soa == 0) = some_soa c.soas.result (count (set_of rs) is_soa) c.soas.ensures c.if-soas-eq0.false in
    let several : false ≡ (nat_lt 1 (count (set_of rs) is_soa)) = one_soa c.soas-else-soas-eq0.result (count (set_of rs) is_soa) c.soas-else-soas-eq0.ensures c.if-soas-gt1.false in
    let served : true ≡ (has (set_of rs) (at origin Ns)) = sym c.if-not-has_set.false ∙ c.has_set.ensures in
    let two : true ≡ (two_cnames origin rs) = sym c.if-has_two_cnames.true ∙ c.has_two_cnames.ensures in
    (λ i. fault_by (root i) (out i) (elsewhere i) (none i) (several i) (served i) (two i) (cnames_and_others origin rs)) ∙ fault_of_row origin rs c.requires

pub returns-then-has_cname_and_other : goal.returns-then-has_cname_and_other
returns-then-has_cname_and_other c =
    let origin = c.args.origin.now in
    let rs = c.args.records.now in
    let root : false ≡ (length origin == 0) = sym c.if-is_root.false ∙ c.is_root.ensures in
    let out : false ≡ (outs origin rs) = sym c.if-some_outside.false ∙ c.some_outside.ensures in
    let elsewhere : false ≡ (elsewheres origin rs) = sym c.if-some_soa_elsewhere.false ∙ c.some_soa_elsewhere.ensures in
    let none : false ≡ (count (set_of rs) is_soa == 0) = some_soa c.soas.result (count (set_of rs) is_soa) c.soas.ensures c.if-soas-eq0.false in
    let several : false ≡ (nat_lt 1 (count (set_of rs) is_soa)) = one_soa c.soas-else-soas-eq0.result (count (set_of rs) is_soa) c.soas-else-soas-eq0.ensures c.if-soas-gt1.false in
    let served : true ≡ (has (set_of rs) (at origin Ns)) = sym c.if-not-has_set.false ∙ c.has_set.ensures in
    let two : false ≡ (two_cnames origin rs) = sym c.if-has_two_cnames.false ∙ c.has_two_cnames.ensures in
    let cname_and_other : true ≡ (cnames_and_others origin rs) = sym c.if-has_cname_and_other.true ∙ c.has_cname_and_other.ensures in
    (λ i. fault_by (root i) (out i) (elsewhere i) (none i) (several i) (served i) (two i) (cname_and_other i)) ∙ fault_of_row origin rs c.requires

pub returns-else-has_cname_and_other : goal.returns-else-has_cname_and_other
returns-else-has_cname_and_other c =
    let origin = c.args.origin.now in
    let rs = c.args.records.now in
    let root : false ≡ (length origin == 0) = sym c.if-is_root.false ∙ c.is_root.ensures in
    let out : false ≡ (outs origin rs) = sym c.if-some_outside.false ∙ c.some_outside.ensures in
    let elsewhere : false ≡ (elsewheres origin rs) = sym c.if-some_soa_elsewhere.false ∙ c.some_soa_elsewhere.ensures in
    let none : false ≡ (count (set_of rs) is_soa == 0) = some_soa c.soas.result (count (set_of rs) is_soa) c.soas.ensures c.if-soas-eq0.false in
    let several : false ≡ (nat_lt 1 (count (set_of rs) is_soa)) = one_soa c.soas-else-soas-eq0.result (count (set_of rs) is_soa) c.soas-else-soas-eq0.ensures c.if-soas-gt1.false in
    let served : true ≡ (has (set_of rs) (at origin Ns)) = sym c.if-not-has_set.false ∙ c.has_set.ensures in
    let two : false ≡ (two_cnames origin rs) = sym c.if-has_two_cnames.false ∙ c.has_two_cnames.ensures in
    let cname_and_other : false ≡ (cnames_and_others origin rs) = sym c.if-has_cname_and_other.false ∙ c.has_cname_and_other.ensures in
    (λ i. fault_by (root i) (out i) (elsewhere i) (none i) (several i) (served i) (two i) (cname_and_other i)) ∙ fault_of_row origin rs c.requires
