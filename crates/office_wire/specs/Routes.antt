-- Which request a method and a target are, by the rows of the routes in src/route.rt.
use Rattle.std.specs.Prelude.{ℕ, zero, suc, List, [], ◌∷◌, map, Bool, true, false, ◌==◌, if◌then◌else◌, Option, Some, None, option_and_then, Result, Ok, Err}
use Rattle.std.specs.List.{list_any}
use Rattle.matchit.specs.Rows.{RowsOf}
use Rattle.matchit.specs.Router.{RouteOf, route_from}
use Rattle.matchit.specs.Order.{placed}
use Rattle.matchit.specs.Route.{Scan, parse_route}
use Rattle.matchit.specs.Seek.{first}
use Rattle.matchit.specs.declared.error.InsertError.{InsertError}
use Rattle.office_wire.specs.declared.method.Method.{Method}
use Rattle.office_wire.specs.declared.method.Method.TheVariants.{Get, Post, Head, Other}
use Rattle.office_wire.specs.declared.route.Route.{Route}
use Rattle.office_wire.specs.declared.route.TheConstants.{ROUTES}

-- a row of the routes: a method, a path with the names of its parts in braces, and what is asked
pub record RouteRow : Type 0 where
  pub method : Method
  pub path : List ℕ
  pub route : Route

-- the routes
abbrev pub routes : List RouteRow
routes = map (λ r. record { method = r.0; path = r.1.now; route = r.2 }) ROUTES

-- the rows of a router, which gives the number of a route's row
abbrev pub Table : Type 0
Table = RowsOf (RouteOf ℕ)

-- a method is this one
abbrev pub is_method : Method → Method → Bool
is_method Post Post = true
is_method Get Get = true
is_method Head Head = true
is_method Other Other = true
is_method m n = false

-- a router with one more, where the text is a route's
abbrev pub with_scan : Result Scan InsertError → ℕ → Table → Table
with_scan (Ok scan) number table = placed (scan.pattern, route_from scan number) table
with_scan (Err e) number table = table

-- a router with the rows of a method, of which the first has this number
abbrev pub with_rows : Method → ℕ → List RouteRow → Table → Table
with_rows method number [] table = table
with_rows method number (row ∷ rows) table =
    with_rows method (suc number) rows (if is_method row.method method then with_scan (parse_route row.path) number table else table)

-- the router of a method by a list of rows
abbrev pub router_by : Method → List RouteRow → Table
router_by method rows = with_rows method 0 rows []

-- the router of a method
unfoldable pub router_of : Method → Table
router_of method = router_by method routes

-- the row of a number, by what is asked and its path
abbrev pub row_at : List RouteRow → ℕ → Option (Route × List ℕ)
row_at [] number = None
row_at (row ∷ rows) zero = Some (row.route, row.path)
row_at (row ∷ rows) (suc number) = row_at rows number

-- the row of a path in a router
abbrev pub row_in : Table → List ℕ → Option (Route × List ℕ)
row_in table path = option_and_then (λ r. row_at routes r.value) (first table path)

-- the row of a path, by the method
abbrev pub row_by : Method → List ℕ → Option (Route × List ℕ)
row_by Post path = row_in (router_of Post) path
row_by Get path = row_in (router_of Get) path
row_by Head path = None
row_by Other path = None

-- what is asked by a method and a target, which has no query (RFC 3986 section 3.4), and the path of its row
abbrev pub route_of : Method → List ℕ → Option (Route × List ℕ)
route_of method target = if list_any (λ o. o == 63) target then None else row_by method target
