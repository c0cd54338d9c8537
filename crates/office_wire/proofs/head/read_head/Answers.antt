use Rattle.std.proofs.Common.{◌≡◌, ℕ, List, ap, ◌∙◌, sym, subst, length, take, map, codes}
use Rattle.std.specs.Prelude.{IsUtf8}
use Rattle.httparse.specs.Spans.{header_bytes, RequestOverflows}
use Rattle.office_wire.specs.Fields.{fields_of, values_of, is_any, only}
use Rattle.office_wire.specs.Lengths.{method_of, ask_by, ask_of}
use Rattle.office_wire.specs.Exchange.{closes_by, closes}
use Rattle.office_wire.proofs.HeadLemmas.{never_from_overflow, spans_count}
use Rattle.office_wire.proofs.head.read_head.Goals as goal

pub returns-in-Ok-Complete : goal.returns-in-Ok-Complete
unfolding ask_of closes
returns-in-Ok-Complete c =
    let window = c.args.window.now in
    let head = c.in-Ok-Complete.head in
    let found = rw c.in-Ok-Complete.field-0-is at c.in-Ok-Complete.ensures.complete in
    let within = rw c.in-Ok-Complete.field-0-is at c.in-Ok-Complete.ensures.within in
    let h = found.0 in
    let is = found.1 in
    let method : c.read-method.result ≡ method_of h.method = c.read-method.ensures ∙ ap method_of (c.of.ensures ∙ is.method) in
    let target : c.of-in-Ok-Complete.result.now ≡ h.target = c.of-in-Ok-Complete.ensures ∙ is.path in
    let spans = take head.headers c.parse_request.new.headers in
    let fields : map (header_bytes window) spans ≡ fields_of h = is.fields in
    let count : length spans ≡ length h.fields = spans_count window spans h.fields fields in (
      h,
      record {
        len = is.len;
        ask = c.asked.ensures.value ∙ (λ i. ask_by (method i) (count i) (is_any (values_of (codes "transfer-encoding") (fields i))) (values_of (codes "content-length") (fields i)));
        asked = record {
          method = method;
          target = target;
          target_text = subst (λ (l : List ℕ). IsUtf8 l) (sym target) is.reads.0.target_text;
          caller = c.only_value.ensures ∙ ap (λ (fs : List (List ℕ × List ℕ)). only (values_of (codes "x-office-caller") fs)) fields;
        };
        closes = c.closes.ensures ∙ (λ i. closes_by (is.version i) (fields i));
      },
      is.reads,
      within.section.len_fits,
      c.asked.ensures.small,
    )

pub returns-in-Err : goal.returns-in-Err
returns-in-Err c = never_from_overflow _ (subst (λ (k : ℕ). RequestOverflows k c.args.window.now) c.requires.spans c.in-Err.ensures.no_room)
