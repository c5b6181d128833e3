-- What is printed of a value that a text spells is that text.
use Rattle.std.proofs.Common.{◌≡◌, ◌∙◌, ℕ, List, [], ◌∷◌, ◌++◌, append-nil, Some, refl, sym, ap, ap₂, subst}
use Rattle.std.specs.List.{join_with_byte, slice_split}
use Rattle.std.proofs.lemmas.List.Splits.{join_with_byte-slice_split}
use Rattle.td_typecode.specs.Labels.{ValueLayer}
use Rattle.td_typecode.specs.Layers.{value-items}
use Rattle.td_typecode.specs.declared.code.Value.{Value}
use Rattle.td_typecode.specs.declared.code.Value.TheVariants as value
use Rattle.td_forms.specs.Values.{all_values, is_comma, item_value, items_of, value_of}
use Rattle.td_forms.specs.declared.item.ItemType.{ItemType}
use Rattle.td_forms.specs.declared.value_type.ValueType.{ValueType}
use Rattle.td_forms.specs.declared.value_type.ValueType.TheVariants.{Plain, Sequence}
use Rattle.td_cli_printing.specs.Values.{item_layer, items_layer, items_text, listed_or, value_text, with_commas}
use Rattle.td_cli_printing.proofs.Singles.{Texts, bound, item_back, mapped, same}

abbrev text_layer : ValueLayer → List ℕ
text_layer l = listed_or (items_layer l) (item_layer l)

items_texts : Texts item_layer
items_texts = record {
  short = λ z. refl;
  long = λ z. refl;
  long_long = λ z. refl;
  u_short = λ n. refl;
  u_long = λ n. refl;
  u_long_long = λ n. refl;
  octet = λ n. refl;
  char = λ b. refl;
  boolean = λ b. refl;
  string = λ t. refl;
}

values_texts : Texts text_layer
values_texts = record {
  short = λ z. refl;
  long = λ z. refl;
  long_long = λ z. refl;
  u_short = λ n. refl;
  u_long = λ n. refl;
  u_long_long = λ n. refl;
  octet = λ n. refl;
  char = λ b. refl;
  boolean = λ b. refl;
  string = λ t. refl;
}

-- ---- the items of a sequence

-- an item is put in front of those that follow
record Cut (i : ItemType) (x : List ℕ) (xs : List (List ℕ)) (ws : List Value) : Type 0 where
  pub first : Value
  pub others : List Value
  pub first_is : item_value i x ≡ Some first
  pub others_are : all_values i xs ≡ Some others
  pub all : ws ≡ first ∷ others

cut : (i : ItemType) (x : List ℕ) (xs : List (List ℕ)) (ws : List Value) → all_values i (x ∷ xs) ≡ Some ws
    → Cut i x xs ws
cut i x xs ws e =
    let a = bound (item_value i x) _ ws e in
    let b = bound (all_values i xs) _ ws a.2 in
    record {
      first = a.0;
      others = b.0;
      first_is = a.1;
      others_are = b.1;
      all = sym (same (a.0 ∷ b.0) ws b.2);
    }

-- the first of them has a comma in front too
commas : (i : ItemType) (x : List ℕ) (xs : List (List ℕ)) (ws : List Value) → all_values i (x ∷ xs) ≡ Some ws
    → with_commas ws ≡ 44 ∷ items_text ws
commas i x xs ws e =
    let k = cut i x xs ws e in
    subst (λ (vs : List Value). with_commas vs ≡ 44 ∷ items_text vs) (sym k.all) refl

-- what is printed of items is their texts, with commas between them
joined : (i : ItemType) (texts : List (List ℕ)) (ws : List Value) → all_values i texts ≡ Some ws
    → items_text ws ≡ join_with_byte 44 texts
joined i [] ws e = ap items_text (sym (same [] ws e))
joined i (x ∷ []) ws e =
    let k = cut i x [] ws e in
    let none : [] ≡ k.others = same [] k.others k.others_are in
    ap items_text k.all
    ∙ ap₂ (λ (a b : List ℕ). a ++ b) (item_back item_layer items_texts i x k.first k.first_is)
    (ap with_commas (sym none))
    ∙ append-nil x
joined i (x ∷ y ∷ xs) ws e =
    let k = cut i x (y ∷ xs) ws e in
    ap items_text k.all
    ∙ ap₂ (λ (a b : List ℕ). a ++ b) (item_back item_layer items_texts i x k.first k.first_is)
    (commas i y xs k.others k.others_are
    ∙ ap (λ (t : List ℕ). 44 ∷ t) (joined i (y ∷ xs) k.others k.others_are))

sequence_back : (i : ItemType) (text : List ℕ) (ws : List Value) → items_of i text ≡ Some ws → items_text ws ≡ text
sequence_back i [] ws e = joined i [] ws e
sequence_back i (b ∷ text) ws e =
    joined i (slice_split is_comma (b ∷ text)) ws e ∙ join_with_byte-slice_split 44 (b ∷ text)

-- ---- both

pub value_back : (type : ValueType) (text : List ℕ) (v : Value) → value_of type text ≡ Some v → value_text v ≡ text
value_back (Plain i) text v e = item_back text_layer values_texts i text v e
value_back (Sequence i) text v e =
    let m = mapped value.Items (items_of i text) v e in
    subst (λ (x : Value). value_text x ≡ text) m.2
    (ap text_layer (value-items m.0) ∙ sequence_back i text m.0 m.1)
