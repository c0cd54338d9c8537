use Rattle.std.proofs.Common.{map}
use Rattle.std.proofs.lemmas.Result.{err_from_is_err_and}
use Rattle.dns_names.proofs.CutLemmas.{AllByRecursion-push}
use Rattle.dns_data.specs.Items.{item_of}
use Rattle.dns_data.specs.Strings.{IsString}
use Rattle.dns_data.specs.Reading.{each_string}
use Rattle.dns_data.proofs.EachLemmas.{goes_on, stops, ends}
use Rattle.dns_data.proofs.fields.each_string.Goals as goal

pub returns-in_err-read-clause-exact : goal.returns-in_err-read-clause-exact
returns-in_err-read-clause-exact c =
    let p = err_from_is_err_and c.from_residual-in_err-read.result c.from_residual-in_err-read.ensures.1 in
    let l = c.loop-item in
    rw (p.1, p.2) (stops l.strings.items c.args.items.now l.item-index _ (each_string (map item_of c.args.items.now)) c.loop-item-test.true l.invariant.so_far c.in_err-read.field-0.0 c.in_err-read.ensures.exact)

pub loop-item-preserved : goal.loop-item-preserved
loop-item-preserved c =
    let l = c.loop-item in
    let string = c.in_ok-read.field-0 in
    rw c.in_ok-push.ensures.items record {
      each = AllByRecursion-push IsString l.strings.items string l.invariant.each c.in_ok-read.ensures.found.0;
      so_far = goes_on l.strings.items c.args.items.now l.item-index _ (each_string (map item_of c.args.items.now)) c.loop-item-test.true l.invariant.so_far string c.in_ok-read.ensures.exact;
    }

pub returns-clause-exact : goal.returns-clause-exact
returns-clause-exact c =
    let l = c.loop-item in
    ends l.strings.items c.args.items.now l.item-index (each_string (map item_of c.args.items.now)) c.loop-item-test.false l.invariant.so_far
