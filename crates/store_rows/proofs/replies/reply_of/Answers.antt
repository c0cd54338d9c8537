use Rattle.std.proofs.Common.{arith}
use Rattle.store_rows.proofs.ReplyLaws.{reply_none}
use Rattle.store_rows.proofs.replies.reply_of.Goals as goal

pub returns-in-len2 : goal.returns-in-len2
returns-in-len2 c = reply_none c.args.words.now (λ e. omega arith) (λ e. omega arith) (λ e. omega arith)

pub returns-in-len5-up : goal.returns-in-len5-up
returns-in-len5-up c = reply_none c.args.words.now (λ e. omega arith) (λ e. omega arith) (λ e. omega arith)
