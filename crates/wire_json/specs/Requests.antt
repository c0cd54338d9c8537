-- What the program sees of the request of a delegation.
use Rattle.wire_json.specs.declared.delegation.RequestedDelegation.{RequestedDelegation}
use Rattle.wire_json.specs.Delegating.{request_of}
use Rattle.wire_json.specs.Reading.{RequestBody}

-- a request, with its lists in place of rows
abbrev pub body_of : RequestedDelegation → RequestBody
body_of body = record { id = body.id; request = request_of body.request }
