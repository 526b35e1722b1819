-- What an argument is that stands where an option may.
use Rattle.std.specs.Prelude.{ℕ, ◌==◌, Bool, List, [], ◌∷◌, codes, drop, length, nat_lt, take, if◌then◌else◌}
use Rattle.std.specs.Borrow.{Bor}
use Rattle.std.specs.List.{after_first, before_first, position_or_len}
use Rattle.std.specs.Str.{bytes_eq}
use Rattle.tool_parts.specs.declared.options.argument.Argument.{Argument}
use Rattle.tool_parts.specs.declared.options.argument.Argument.TheVariants.{End, Name, Joined, Letters, Plain}

-- two hyphens, behind which no option follows, a long name, one with a value behind an equals sign, joined letters, or no option
pub data Form : Type 0 where
  no_more : Form
  long_name : List ℕ → Form
  long_with : (name value : List ℕ) → Form
  joined_letters : List ℕ → Form
  no_option : Form

-- the form that an `Argument` tells
abbrev pub form_of : Argument (Bor (List ℕ)) → Form
form_of End = no_more
form_of (Name name) = long_name name.now
form_of (Joined name value) = long_with name.now value.now
form_of (Letters letters) = joined_letters letters.now
form_of Plain = no_option

abbrev pub is_equals : ℕ → Bool
is_equals byte = byte == 61

-- what stands behind two hyphens: a name, which ends at the first equals sign, where there is one
abbrev pub long_form : List ℕ → Form
long_form text =
    if nat_lt (position_or_len is_equals text) (length text) then long_with (before_first is_equals text) (after_first is_equals text)
    else long_name text

-- what stands behind one; nothing makes the hyphen no option
abbrev pub hyphen_form : List ℕ → Form
hyphen_form [] = no_option
hyphen_form (first ∷ rest) = joined_letters (first ∷ rest)

-- an argument that does not begin with two hyphens
abbrev pub short_form : List ℕ → Form
short_form [] = no_option
short_form (first ∷ rest) = if first == 45 then hyphen_form rest else no_option

-- what an argument is
unfoldable pub argument_form : List ℕ → Form
argument_form argument =
    if bytes_eq argument (codes "--") then no_more
    else if bytes_eq (take 2 argument) (codes "--") then long_form (drop 2 argument)
    else short_form argument
