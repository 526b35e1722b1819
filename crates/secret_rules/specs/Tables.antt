-- Which rules a text of TOML gives.
use Rattle.std.specs.Prelude.{◌≡◌, ℕ, pos, codes, List, [], ◌∷◌, IsSome, IsSomeAnd, None, Option, map, option_and_then, option_map, string_bytes, unwrap_or, Some}
use Rattle.toml.specs.Data.{Data, Items, array, as_array, as_str, get, get_item, get_member, integer, item, no_items, string}
use Rattle.toml.specs.Errors.{IsWithin}
use Rattle.toml.specs.Parse.{parse_document}
use Rattle.toml.specs.View.{items_of}
use Rattle.secret_rules.specs.Rules.{keywords_of, regex_of}
use Rattle.secret_rules.specs.declared.parsing.Key.{Key}
use Rattle.secret_rules.specs.declared.parsing.Key.TheVariants.{Id, Keywords, Regex, SecretGroup, Until, With}
use Rattle.secret_rules.specs.declared.parsing.ParseError.{ParseError}
use Rattle.secret_rules.specs.declared.parsing.ParseError.TheVariants.{Missing, NoRules, OutOfMemory, Toml, WrongType}
use Rattle.secret_rules.specs.declared.rule.Rule.{Rule}

-- how a key is written
abbrev pub key_name : Key → List ℕ
key_name Id = codes "id"
key_name Regex = codes "regex"
key_name Keywords = codes "keywords"
key_name SecretGroup = codes "secretGroup"
key_name Until = codes "until"
key_name With = codes "with"

-- what a table has at a key
abbrev pub held_at : Key → Data → Option Data
held_at key pairs = get (key_name key) pairs

-- an array of texts
abbrev pub text_items : List (List ℕ) → Items
text_items texts = items_of (map string texts)

-- a table gives a rule: its texts stand at their keys, or neither is there; without the key there are no keywords, and the group is 0
pub record IsRuleOf (pairs : Data) (rule : Rule) : Type 0 where
  pub id : held_at Id pairs ≡ Some (string (string_bytes rule.id))
  pub regex : held_at Regex pairs ≡ Some (string (regex_of rule))
  pub keywords : unwrap_or (held_at Keywords pairs) (array no_items) ≡ array (text_items (keywords_of rule))
  pub secret_group : unwrap_or (held_at SecretGroup pairs) (integer (pos 0)) ≡ integer (pos rule.secret_group)
  pub until : held_at Until pairs ≡ option_map (λ text. string (string_bytes text)) rule.until
  pub with : held_at With pairs ≡ option_map (λ text. string (string_bytes text)) rule.with

-- each table of an array gives the rule at its place
abbrev pub AreRulesIn : Items → List Rule → Type 0
AreRulesIn no_items [] = Unit {0}
AreRulesIn (item pairs tables) (rule ∷ rules) = IsRuleOf pairs rule × AreRulesIn tables rules
AreRulesIn tables rules = ⊥

-- the array `rules` of a text of TOML
abbrev pub rules_array : List ℕ → Option Items
rules_array text = option_and_then as_array (option_and_then (get_member (codes "rules")) (parse_document text))

-- the text gives these rules
abbrev pub TellsRules : List ℕ → List Rule → Type 0
TellsRules text rules = IsSomeAnd (rules_array text) (λ tables. AreRulesIn tables rules)

-- each item of an array is a text
abbrev pub AllTexts : Items → Type 0
AllTexts no_items = Unit {0}
AllTexts (item value values) = IsSome (as_str value) × AllTexts values

-- what has to stand at a key: an array of texts, a whole number from 0 on, or a text
abbrev pub Suits : Key → Data → Type 0
Suits Keywords value = IsSomeAnd (as_array value) AllTexts
Suits SecretGroup value = (number : ℕ) × (value ≡ integer (pos number))
Suits key value = IsSome (as_str value)

-- a text has to stand at this key
abbrev pub IsTextKey : Key → Type 0
IsTextKey Keywords = ⊥
IsTextKey SecretGroup = ⊥
IsTextKey key = Unit {0}

-- a rule has to have this key
abbrev pub IsNeeded : Key → Type 0
IsNeeded Id = Unit {0}
IsNeeded Regex = Unit {0}
IsNeeded key = ⊥

-- the table of the rule of this number gives none
abbrev pub IsTableFault : ℕ → Data → ParseError → Type 0
IsTableFault number pairs (Missing told key) = (told ≡ number) × IsNeeded key × (held_at key pairs ≡ None)
IsTableFault number pairs (WrongType told key) = (told ≡ number) × IsSomeAnd (held_at key pairs) (λ value. ¬ (Suits key value))
IsTableFault number pairs OutOfMemory = Unit {0}
IsTableFault number pairs error = ⊥

-- it is so of the table at this place of an array
abbrev pub IsFaultAt : Items → ℕ → ParseError → Type 0
IsFaultAt tables number error = IsSomeAnd (get_item number tables) (λ pairs. IsTableFault number pairs error)

-- an array of tables gives no rules, for a fault of one of them
abbrev pub IsFaultIn : Items → ParseError → Type 0
IsFaultIn tables (Missing number key) = IsFaultAt tables number (Missing number key)
IsFaultIn tables (WrongType number key) = IsFaultAt tables number (WrongType number key)
IsFaultIn tables OutOfMemory = Unit {0}
IsFaultIn tables error = ⊥

-- a text is no TOML
abbrev pub IsNoTable : List ℕ → ParseError → Type 0
IsNoTable text (Toml error) = (parse_document text ≡ None) × IsWithin text error
IsNoTable text OutOfMemory = Unit {0}
IsNoTable text error = ⊥

-- why a text gives no rules
abbrev pub IsParseFailure : List ℕ → ParseError → Type 0
IsParseFailure text (Toml error) = IsNoTable text (Toml error)
IsParseFailure text NoRules = IsSome (parse_document text) × (rules_array text ≡ None)
IsParseFailure text (Missing number key) = IsSomeAnd (rules_array text) (λ tables. IsFaultAt tables number (Missing number key))
IsParseFailure text (WrongType number key) = IsSomeAnd (rules_array text) (λ tables. IsFaultAt tables number (WrongType number key))
IsParseFailure text OutOfMemory = Unit {0}
