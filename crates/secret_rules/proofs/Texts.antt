-- Texts and tables of an array, one after another.
use Rattle.std.proofs.Common.{◌≡◌, ◌∙◌, ℕ, zero, suc, ◌+◌, ◌<◌, List, [], ◌∷◌, ◌++◌, Some, None, String, Global, ap, sym, refl, get_or, length, map, string_bytes, take, arith}
use Rattle.std.proofs.lemmas.List.{take_more}
use Rattle.toml.proofs.Views.{items_view-push}
use Rattle.toml.specs.Data.{Data, Items, as_str, get_item, item, no_items, push_item, string}
use Rattle.toml.specs.View.{items_view, view}
use Rattle.toml.specs.declared.value.Value.{Value}
use Rattle.secret_rules.specs.Tables.{AreRulesIn, AllTexts, IsFaultIn, IsRuleOf, IsTableFault, text_items}
use Rattle.secret_rules.specs.declared.parsing.ParseError.{ParseError}
use Rattle.secret_rules.specs.declared.parsing.ParseError.TheVariants.{Missing, NoRules, OutOfMemory, Toml, WrongType}
use Rattle.secret_rules.specs.declared.rule.Rule.{Rule}

-- a value that has a text is this text
is_text : (value : Data) (text : List ℕ) → Some text ≡ as_str value → value ≡ string text
is_text value text has = grind arith

text_items-more : (texts : List (String Global)) (text : String Global)
    → text_items (map string_bytes (texts ++ text ∷ [])) ≡ push_item (text_items (map string_bytes texts)) (string (string_bytes text))
text_items-more [] text = refl
text_items-more (first ∷ texts) text = ap (item (string (string_bytes first))) (text_items-more texts text)

pub texts-more : (values : List Value) (texts : List (String Global)) (i : ℕ) (d : Value) (text : String Global) → i < length values
    → items_view (take i values) ≡ text_items (map string_bytes texts) → Some (string_bytes text) ≡ as_str (view (get_or values i d))
    → items_view (take (i + 1) values) ≡ text_items (map string_bytes (texts ++ text ∷ []))
texts-more values texts i d text within before has =
    ap items_view (take_more values i d within) ∙ items_view-push (take i values) (get_or values i d)
    ∙ ap (λ (items : Items). push_item items (view (get_or values i d))) before
    ∙ ap (push_item (text_items (map string_bytes texts))) (is_text (view (get_or values i d)) (string_bytes text) has)
    ∙ sym (text_items-more texts text)

-- an array with an item that is no text is not of texts
pub no_texts : (values : List Value) (i : ℕ) (d : Value) → i < length values → None ≡ as_str (view (get_or values i d)) → ¬ (AllTexts (items_view values))
no_texts [] i d within none = λ are. absurd (omega (arith, within))
no_texts (value ∷ values) zero d within none = λ are. grind (arith, none, are.0)
no_texts (value ∷ values) (suc i) d within none = λ are. no_texts values i d (omega (arith, within)) none are.1

rules-push : (tables : Items) (rules : List Rule) (pairs : Data) (rule : Rule) → AreRulesIn tables rules → IsRuleOf pairs rule
    → AreRulesIn (push_item tables pairs) (rules ++ rule ∷ [])
rules-push no_items [] pairs rule are is = (is, tt)
rules-push (item t tables) (r ∷ rules) pairs rule are is = (are.0, rules-push tables rules pairs rule are.1 is)
rules-push no_items (r ∷ rules) pairs rule are is = absurd are
rules-push (item t tables) [] pairs rule are is = absurd are

pub rules-more : (values : List Value) (rules : List Rule) (i : ℕ) (d : Value) (rule : Rule) → i < length values
    → AreRulesIn (items_view (take i values)) rules → IsRuleOf (view (get_or values i d)) rule
    → AreRulesIn (items_view (take (i + 1) values)) (rules ++ rule ∷ [])
rules-more values rules i d rule within before is =
    rw (take_more values i d within, items_view-push (take i values) (get_or values i d)) (rules-push (items_view (take i values)) rules (view (get_or values i d)) rule before is)

item_at : (values : List Value) (i : ℕ) (d : Value) → i < length values → get_item i (items_view values) ≡ Some (view (get_or values i d))
item_at [] i d within = absurd (omega (arith, within))
item_at (value ∷ values) zero d within = refl
item_at (value ∷ values) (suc i) d within = item_at values i d (omega (arith, within))

-- a table's fault is one of its array
pub fault_in : (values : List Value) (i : ℕ) (d : Value) (error : ParseError) → i < length values → IsTableFault i (view (get_or values i d)) error
    → IsFaultIn (items_view values) error
fault_in values i d (Missing told key) within fault = rw (fault.0, item_at values i d within) (refl, fault.1, fault.2)
fault_in values i d (WrongType told key) within fault = rw (fault.0, item_at values i d within) (refl, fault.1)
fault_in values i d OutOfMemory within fault = tt
fault_in values i d NoRules within fault = absurd fault
fault_in values i d (Toml error) within fault = absurd fault
