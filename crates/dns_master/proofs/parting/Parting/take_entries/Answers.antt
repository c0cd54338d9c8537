use Rattle.std.proofs.Common.{◌≡◌, ◌<◌, ◌∙◌, length, arith, ap, sym, refl, map, Ok, List}
use Rattle.std.proofs.lemmas.Result.{err_from_is_err_and}
use Rattle.dns_data.specs.declared.item.Item.{Item}
use Rattle.dns_data.specs.Items.{item_of}
use Rattle.dns_master.specs.Entries.{white_first}
use Rattle.dns_master.specs.FileViews.{force_of}
use Rattle.dns_master.specs.AnyRecords.{any_taken}
use Rattle.dns_master.proofs.FileLemmas.{not_none}
use Rattle.dns_master.proofs.PartingLemmas.{ends, past_blank, past_entry, fault_told, shape_fails}
use Rattle.dns_master.proofs.parting.Parting.take_entries.Goals as goal

pub loop-rest-init : goal.loop-rest-init
loop-rest-init c = refl

pub returns-in_err-end : goal.returns-in_err-end
returns-in_err-end c =
    let l = c.loop-rest in
    let p = err_from_is_err_and c.from_residual.result c.from_residual.ensures.1 in
    rw (p.1, p.2) (shape_fails _ (force_of l.self.file) l.self.text.items l.self.part l.self.origin l.rest.now c.in_err-end.field-0.0 c.in_err-end.ensures.exact l.invariant)

pub loop-rest-preserved-then-is_empty : goal.loop-rest-preserved-then-is_empty
loop-rest-preserved-then-is_empty c =
    let l = c.loop-rest in
    let end = c.in_ok-end.end in
    let none : length c.read_entry.new.items.items ≡ 0 = grind (arith, c.is_empty-in-loop-rest.ensures, c.if-is_empty.true) in
    past_blank _ l.rest.now end.rest.now (force_of l.self.file) l.self c.read_entry.new.items.items end.left c.in_ok-end.ensures.exact l.invariant none

pub loop-rest-preserved : goal.loop-rest-preserved
loop-rest-preserved c =
    let l = c.loop-rest in
    let end = c.in_ok-end.end in
    let t = c.in_default.ensures in
    let there = not_none c.read_entry.new.items.len c.is_empty-in-loop-rest.result c.is_empty-in-loop-rest.ensures c.if-is_empty.false in
    let some : 0 < length c.read_entry.new.items.items = omega (arith, there, c.read_entry.new.items.ok) in
    let read : any_taken (force_of l.self.file) (white_first l.rest.now) (map item_of c.read_entry.new.items.items) ≡ Ok t.0 =
    rw (sym c.begins_white-white.ensures) (ap (λ (items : List Item). any_taken (force_of l.self.file) c.begins_white-white.result (map item_of items)) (sym c.deref.ensures.value) ∙ t.1) in
    past_entry _ l.rest.now end.rest.now (force_of l.self.file) l.self c.read_entry.new.items.items end.left c.in_ok-end.ensures.exact l.invariant t.0 c.take_entry.new.self some read t.2

pub returns-in-Err : goal.returns-in-Err
returns-in-Err c =
    let l = c.loop-rest in
    let end = c.in_ok-end.end in
    let there = not_none c.read_entry.new.items.len c.is_empty-in-loop-rest.result c.is_empty-in-loop-rest.ensures c.if-is_empty.false in
    let some : 0 < length c.read_entry.new.items.items = omega (arith, there, c.read_entry.new.items.ok) in
    let refused = rw (c.begins_white-white.ensures, c.deref.ensures.value) at c.in-Err.ensures in
    fault_told _ l.rest.now end.rest.now (force_of l.self.file) l.self c.read_entry.new.items.items end.left c.in_ok-end.ensures.exact l.invariant
    c.in-Err.fault c.fault_before.result some refused c.fault_before.ensures

pub returns : goal.returns
returns c =
    let none : length c.loop-rest.rest.now ≡ 0 = grind (arith, c.is_empty.ensures, c.loop-rest-test.false) in
    ends _ (force_of c.loop-rest.self.file) c.loop-rest.self.text.items c.loop-rest.self.part c.loop-rest.self.origin c.loop-rest.rest.now none c.loop-rest.invariant
