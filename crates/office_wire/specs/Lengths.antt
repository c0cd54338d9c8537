-- What a head asks to be read after it (RFC 9112 section 6).
use Rattle.std.specs.Prelude.{ℕ, ◌≤◌, List, [], ◌∷◌, length, Bool, true, false, ◌&&◌, ◌||◌, ◌==◌, not, nat_lt, if◌then◌else◌, Option, Some, None, codes, bytes_eq, ⊤}
use Rattle.std.specs.List.{list_all}
use Rattle.std.specs.Str.Parse.{digits_value}
use Rattle.httparse.specs.Grammar.{RequestHead}
use Rattle.office_wire.specs.declared.refusal.Refusal.TheVariants.{BadHead, NoLength, BodyTooLarge}
use Rattle.office_wire.specs.declared.length.Ask.{Ask}
use Rattle.office_wire.specs.declared.length.Ask.TheVariants.{Body, Refused}
use Rattle.office_wire.specs.declared.method.Method.{Method}
use Rattle.office_wire.specs.declared.method.Method.TheVariants.{Get, Post, Head, Other}
use Rattle.dns_data.specs.Numbers.{is_number}
use Rattle.office_wire.specs.Fields.{fields_of, values_of, is_any, number_up_to}

-- the method of a request (RFC 9110 section 9)
abbrev pub method_of : List ℕ → Method
method_of text =
    if bytes_eq text (codes "POST") then Post
    else (if bytes_eq text (codes "GET") then Get else (if bytes_eq text (codes "HEAD") then Head else Other))

-- a POST has to state its length
abbrev pub needs_length : Method → Bool
needs_length Post = true
needs_length Get = false
needs_length Head = false
needs_length Other = false

-- texts that are one number, however many zeros stand before it
abbrev pub are_one_number : List ℕ → List (List ℕ) → Bool
are_one_number first others = is_number first && list_all (λ v. is_number v && (digits_value 10 v == digits_value 10 first)) others

-- a body of a length, where it is at most 65,536 octets
abbrev pub body_up_to : Option ℕ → Ask
body_up_to None = Refused BodyTooLarge
body_up_to (Some n) = Body n

-- What follows a head by its method, how many fields it has, whether it has a transfer coding, and its stated lengths: a head that
-- is bad is refused first, then a length that is missing, then one that is too large.
abbrev pub ask_by : Method → ℕ → Bool → List (List ℕ) → Ask
ask_by method count encoded [] =
    if nat_lt 64 count then Refused BadHead else (if encoded || needs_length method then Refused NoLength else Body 0)
ask_by method count encoded (first ∷ others) =
    if nat_lt 64 count || not (are_one_number first others) then Refused BadHead
    else (if encoded then Refused NoLength else body_up_to (number_up_to 65536 first))

-- what stands after this head: a body of so many octets, or nothing, since it is refused
unfoldable pub ask_of : RequestHead → Ask
ask_of h =
    ask_by (method_of h.method) (length h.fields) (is_any (values_of (codes "transfer-encoding") (fields_of h)))
    (values_of (codes "content-length") (fields_of h))

-- a body that is asked for has at most so many octets
abbrev pub BodyUpTo : ℕ → Ask → Type 0
BodyUpTo most (Body n) = n ≤ most
BodyUpTo most (Refused r) = ⊤
