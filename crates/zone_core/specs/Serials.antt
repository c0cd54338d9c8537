-- Serials of 32 bits (RFC 1982 section 3).
use Rattle.std.specs.Prelude.{ℕ, ◌+◌, ◌-◌, ◌%◌, ◌^◌, ◌<◌, ◌⊎◌, Bool, ◌&&◌, ◌||◌, nat_lt}

-- the sum of a serial and a number, which wraps (RFC 1982 section 3.1)
abbrev pub serial_sum : ℕ → ℕ → ℕ
serial_sum s n = (s + n) % 2 ^ 32

-- one serial is less than another; two that are 2 to the 31 apart are neither less nor greater (RFC 1982 section 3.2)
abbrev pub IsLess : ℕ → ℕ → Type 0
IsLess s t = ((s < t) × (t - s < 2 ^ 31)) ⊎ ((t < s) × (2 ^ 31 < s - t))

-- whether one serial is less than another (RFC 1982 section 3.2)
abbrev pub is_less : ℕ → ℕ → Bool
is_less s t = (nat_lt s t && nat_lt (t - s) (2 ^ 31)) || (nat_lt t s && nat_lt (2 ^ 31) (s - t))
