use Rattle.wire_json.specs.Json.{quoted}
use Rattle.wire_json.specs.Replies.{update_body}
use Rattle.wire_json.specs.UpdateTexts.{update_text}
use Rattle.cli_store.proofs.LogObjectLemmas.{receipt_joined}
use Rattle.cli_store.proofs.log_object.push_receipt_object.Goals as goal

pub returns : goal.returns
returns c =
    let k = c.args.kept.now in
    receipt_joined c.args.text.now.items (quoted k.caller) (update_body k.receipt.reply) (update_text k.id k.receipt.update) _ _ _ _
    c.in_ok-push_caller.ensures c.in_ok-push_reply.ensures c.in_ok-push_request.ensures c.in_ok-extend_from_slice.ensures.items
