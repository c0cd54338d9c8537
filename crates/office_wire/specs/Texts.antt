-- The texts of responses (RFC 9112 sections 4 and 5).
use Rattle.std.specs.Prelude.{ℕ, List, [], ◌++◌, length, Bool, true, false, codes, decimal, unwrap_or}
use Rattle.http.specs.StatusCode.{code_digits, reason_phrase}
use Rattle.office_model.specs.declared.reply.UpdateReply.{UpdateReply}
use Rattle.office_model.specs.declared.reply.UpdateReply.TheVariants as updates
use Rattle.office_model.specs.declared.reply.Reply.{Reply}
use Rattle.office_model.specs.declared.reply.Reply.TheVariants as replies
use Rattle.office_model.specs.declared.reply.Reading.TheVariants as readings
use Rattle.wire_json.specs.Replies.{body_of, refusal_body, form_error_body}
use Rattle.office_wire.specs.declared.method.Method.{Method}
use Rattle.office_wire.specs.declared.method.Method.TheVariants.{Head}
use Rattle.office_wire.specs.declared.refusal.Refusal.{Refusal}
use Rattle.office_wire.specs.declared.refusal.Refusal.TheVariants.{BadHead, NoCaller, NoLength, BodyTooLarge, BadPart, NoRoute, CutShort}
use Rattle.office_wire.specs.declared.response.Response.{Response}
use Rattle.office_wire.specs.declared.response.Response.TheVariants.{Refused, BadBody, Replied}
use Rattle.office_wire.specs.Refusals.{refusal_number}

-- the phrase of a status, and none where it is not a registered one (RFC 9110 section 15.1)
abbrev pub phrase_of : ℕ → List ℕ
phrase_of status = unwrap_or (reason_phrase status) []

-- ---- which status

-- of a refusal (RFC 9110 section 15.5)
abbrev pub refusal_status : Refusal → ℕ
refusal_status BadHead = 400
refusal_status NoCaller = 400
refusal_status NoLength = 411
refusal_status BodyTooLarge = 413
refusal_status BadPart = 400
refusal_status NoRoute = 404
refusal_status CutShort = 400

-- of a reply to an update
abbrev pub update_status : UpdateReply → ℕ
update_status updates.NoError = 200
update_status updates.NotAuth = 404
update_status (updates.NotZone place) = 400
update_status (updates.Refused place by) = 403
update_status (updates.Failed failed) = 412

-- of a reply
abbrev pub reply_status : Reply → ℕ
reply_status (replies.Update reply) = update_status reply
reply_status replies.IdReused = 409
reply_status (replies.Servfail fault) = 500
reply_status replies.NotAuth = 404
reply_status replies.NotZone = 400
reply_status (replies.Read reading) = 200

-- of a response
abbrev pub status_of : Response → ℕ
status_of (Refused refusal) = refusal_status refusal
status_of (BadBody number) = 400
status_of (Replied reply) = reply_status reply

-- ---- the text

-- the media type of a reply's body: a master file is plain text
abbrev pub reply_type : Reply → List ℕ
reply_type (replies.Read (readings.File origin records)) = codes "text/plain"
reply_type reply = codes "application/json"

abbrev pub type_of : Response → List ℕ
type_of (Replied reply) = reply_type reply
type_of response = codes "application/json"

-- the body of a response
abbrev pub response_body : Response → List ℕ
response_body (Refused refusal) = refusal_body (refusal_number refusal)
response_body (BadBody number) = form_error_body number
response_body (Replied reply) = body_of reply

-- the end of a head; a response that is the last says so (RFC 9112 section 9.6)
abbrev pub head_end : Bool → List ℕ
head_end true = codes "\r\nConnection: close\r\n\r\n"
head_end false = codes "\r\n\r\n"

-- the head of a response, by the digits of its status, its phrase, its media type, the digits of its body's length, and its end
abbrev pub head_parts : List ℕ → List ℕ → List ℕ → List ℕ → List ℕ → List ℕ
head_parts code phrase media digits end =
    codes "HTTP/1.1 " ++ (code ++ (codes " " ++ (phrase ++ (codes "\r\nContent-Type: " ++ (media ++ (codes "\r\nContent-Length: " ++ (digits ++ end)))))))

-- the same by its status, its media type, how long its body is, and whether it is the last
abbrev pub head_text : ℕ → List ℕ → ℕ → Bool → List ℕ
head_text status media n closing = head_parts (code_digits status) (phrase_of status) media (decimal n) (head_end closing)

-- what is sent of a body, by the method of the request: nothing to HEAD (RFC 9110 section 9.3.2)
abbrev pub sent_body : Method → List ℕ → List ℕ
sent_body Head body = []
sent_body method body = body

-- the text of a response to a request of a method, with the length of the body also where the body is not sent
unfoldable pub text_of : Method → Response → Bool → List ℕ
text_of method response closing =
    head_text (status_of response) (type_of response) (length (response_body response)) closing ++ sent_body method (response_body response)
