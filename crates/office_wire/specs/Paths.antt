-- Which targets a row of the routes takes, by the segments of its path.
use Rattle.std.specs.Prelude.{◌≡◌, ◌<◌, ◌↔◌, ◌==◌, ◌&&◌, ℕ, List, [], ◌∷◌, ◌++◌, Bool, true, if◌then◌else◌, length, slice_index_or, MatchBool, nat_eq, Some}
use Rattle.std.specs.List.{AllByRecursion, AllZip, Contains, flat_map, starts_with, ends_with}
use Rattle.office_wire.specs.declared.method.Method.{Method}
use Rattle.office_wire.specs.declared.route.Route.{Route}
use Rattle.percent_encoding.specs.Percent.{percent_decode}
use Rattle.office_wire.specs.Routes.{RouteRow, routes, route_of}
use Rattle.office_wire.specs.Parts.{decoded_part}

-- an octet before the first of these segments
abbrev pub widen : ℕ → List (List ℕ) → List (List ℕ)
widen o [] = (o ∷ []) ∷ []
widen o (s ∷ segments) = (o ∷ s) ∷ segments

-- the segments of a path: what its slashes separate (RFC 3986 section 3.3)
abbrev pub segments : List ℕ → List (List ℕ)
segments [] = [] ∷ []
segments (o ∷ path) = if o == 47 then [] ∷ segments path else widen o (segments path)

-- segments with a slash between each two
abbrev pub joined : List (List ℕ) → List ℕ
joined [] = []
joined (s ∷ ss) = s ++ flat_map (λ t. 47 ∷ t) ss

-- a segment has no slash
abbrev pub HasNoSlash : List ℕ → Type 0
HasNoSlash segment = Contains segment 47 → ⊥

-- the segments of a path are the pieces without a slash that make the path, if a slash is put between each two
abbrev pub SegmentsAreBetweenSlashes : Type 0
SegmentsAreBetweenSlashes =
    (path : List ℕ) (ss : List (List ℕ)) → (segments path ≡ ss) ↔ ((0 < length ss) × AllByRecursion HasNoSlash ss × (path ≡ joined ss))

-- a segment in braces is the name of a part
abbrev pub is_name : List ℕ → Bool
is_name segment = starts_with nat_eq segment (123 ∷ []) && ends_with nat_eq segment (125 ∷ [])

-- the name of a part is met by each segment that has an octet, another segment by itself only
abbrev pub MeetsSegment : List ℕ → List ℕ → Type 0
MeetsSegment pattern segment = MatchBool (is_name pattern) (0 < length segment) (segment ≡ pattern)

-- a path has as many segments as the path of a row, and they meet those one by one
abbrev pub IsPath : List ℕ → List ℕ → Type 0
IsPath pattern path = AllZip MeetsSegment (segments pattern) (segments path)

-- a target has no query: none of its octets is a question mark (RFC 3986 section 3.4)
abbrev pub HasNoQuery : List ℕ → Type 0
HasNoQuery target = Contains target 63 → ⊥

-- a row takes a target exactly where its method is asked, the target has no query, and its path is the row's
abbrev pub RoutesAreTheirPaths : Type 0
RoutesAreTheirPaths =
    (method : Method) (target : List ℕ) (route : Route) (path : List ℕ)
    → (route_of method target ≡ Some (route, path)) ↔ (Contains routes (record { method = method; path = path; route = route }) × HasNoQuery target × IsPath path target)

-- a path is that of one row of a method
abbrev pub TargetsHaveOneRow : Type 0
TargetsHaveOneRow =
    (target : List ℕ) (a b : RouteRow) → Contains routes a → Contains routes b → a.method ≡ b.method → IsPath a.path target → IsPath b.path target
    → a ≡ b

-- the part of a name, where a row takes a target, is the target's segment at the place that the name has in the row's path, decoded
abbrev pub PartsAreSegments : Type 0
PartsAreSegments =
    (row : RouteRow) (target : List ℕ) (i : ℕ) → Contains routes row → IsPath row.path target → i < length (segments row.path)
    → is_name (slice_index_or (segments row.path) i []) ≡ true
    → decoded_part row.path target (slice_index_or (segments row.path) i []) ≡ percent_decode (slice_index_or (segments target) i [])
