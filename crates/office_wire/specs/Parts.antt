-- The parts of a path: what stands between its slashes (RFC 3986 section 3.3).
use Rattle.std.specs.Prelude.{ℕ, List, [], ◌∷◌, ◌==◌, if◌then◌else◌, bytes_eq}
use Rattle.percent_encoding.specs.Percent.{percent_decode}

-- what stands before the first slash
abbrev pub before_slash : List ℕ → List ℕ
before_slash [] = []
before_slash (o ∷ text) = if o == 47 then [] else o ∷ before_slash text

-- what stands after it
abbrev pub behind_slash : List ℕ → List ℕ
behind_slash [] = []
behind_slash (o ∷ text) = if o == 47 then text else behind_slash text

-- the part of a path that stands where the path of its route has this name in braces: both are read slash by slash
abbrev pub part : List ℕ → List ℕ → List ℕ → List ℕ
part [] path name = []
part (o ∷ route) path name =
    if o == 47 then (if bytes_eq (before_slash route) name then before_slash (behind_slash path) else part route (behind_slash path) name) else part route path name

-- the same with its escapes decoded, so that an escaped slash ends no part (RFC 3986 section 2.1)
abbrev pub decoded_part : List ℕ → List ℕ → List ℕ → List ℕ
decoded_part route path name = percent_decode (part route path name)
