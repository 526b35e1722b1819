-- Names in messages, and the line of a message.
use Rattle.std.specs.Prelude.{ℕ, ◌-◌, ◌/◌, ◌%◌, ◌+◌, ◌==◌, ◌||◌, Bool, List, [], ◌∷◌, ◌++◌, Option, Some, codes, if◌then◌else◌, nat_lt}
use Rattle.std.specs.List.{flat_map}
use Rattle.tool_parts.specs.Messages.{message_of}

-- a control character of ASCII
abbrev pub is_unshown : ℕ → Bool
is_unshown byte = nat_lt byte 32 || byte == 127

-- a hexadecimal digit
abbrev pub upper_hex : ℕ → ℕ
upper_hex digit = if nat_lt digit 10 then 48 + digit else 65 + (digit - 10)

-- the two of a byte
abbrev pub digits_in : ℕ → List ℕ
digits_in byte = upper_hex (byte / 16) ∷ upper_hex (byte % 16) ∷ []

-- a byte as it stands in a message: a control character as '\x' and two digits
abbrev pub shown_byte : ℕ → List ℕ
shown_byte byte = if is_unshown byte then codes "\\x" ++ digits_in byte else byte ∷ []

-- and a name, so that a message is one line
abbrev pub as_shown : List ℕ → List ℕ
as_shown name = flat_map shown_byte name

-- the line that tells what is wrong with something, of which line of it, and why
abbrev pub shown_line : (program name : List ℕ) → Option ℕ → (cause : List ℕ) → List ℕ
shown_line program name line cause = message_of program (Some (as_shown name)) line cause
