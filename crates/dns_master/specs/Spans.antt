-- Where tokens stand in a text.
use Rattle.std.specs.Prelude.{◌≡◌, ℕ, suc, ◌+◌, ◌≤◌, List, [], ◌∷◌, ◌++◌, length, if◌then◌else◌}
use Rattle.dns_data.specs.Items.{item_text}
use Rattle.dns_master.specs.Lines.{line_ends}
use Rattle.dns_master.specs.Tokens.{TokenText}

-- how many quotes stand on each side of an item's octets
abbrev pub quotes : TokenText → ℕ
quotes t = if t.item.quoted then 1 else 0

-- the item stands in the text at its place, with its quotes around it if it has them, on its line
abbrev pub IsSlice : List ℕ → TokenText → Type 0
IsSlice text t =
    (front after : List ℕ) × (text ≡ front ++ (item_text t.item ++ after)) × (t.start ≡ length front + quotes t) × (t.line ≡ suc (line_ends front))

-- each begins, with its quotes, where the one before has ended, or after that; the first after so many octets
abbrev pub AreInOrder : ℕ → List TokenText → Type 0
AreInOrder end [] = Unit {0}
AreInOrder end (t ∷ ts) = (end + quotes t ≤ t.start) × AreInOrder (t.start + length t.item.raw + quotes t) ts
