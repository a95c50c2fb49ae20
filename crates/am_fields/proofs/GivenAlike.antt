-- Items alike, none of which may be null; actions alike; and values whose numbers all stand.
use Rattle.std.proofs.Common.{◌≡◌, ◌≢◌, ℕ, zero, suc, ◌<◌, ◌↔◌, List, [], ◌∷◌, ◌++◌, length, map, replicate, Option, Some, None, inr, refl, arith, sym, ap, ◌∙◌, subst}
use Rattle.std.specs.Prelude.{IsSome, IfNone}
use Rattle.std.specs.Option.{option_map}
use Rattle.std.proofs.lemmas.List.{length-map}
use Rattle.am_types.specs.declared.RawValue.{RawValue}
use Rattle.am_runs.specs.Typed.{JoinsUnsigned}
use Rattle.am_values.specs.declared.Nulls.{Nulls}
use Rattle.am_values.specs.declared.Nulls.TheVariants.{AreRefused}
use Rattle.am_values.specs.Columns.{metadata, NoneNull, JoinsValues}
use Rattle.am_values.proofs.Alike.{null_alike, none_null-numbers}
use Rattle.am_fields.specs.Groups.{AreActions, IsAction}
use Rattle.am_fields.specs.Spelling.{SpellsGiven, SpellsValues}
use Rattle.am_fields.proofs.GroupLaws.{given-told, joins-given, values_joined, values-same_length}
use Rattle.am_fields.proofs.OneColumn.{numbers_one}

pub IfNone-from : {A : Type 0} (r : Option A) (P : Type 0) → P → IfNone r P
IfNone-from None P p = p
IfNone-from (Some x) P p = tt

-- ---- numbers alike

pub given_kept : (nulls : Nulls) (n : ℕ) (x : Option ℕ) (list all : List (Option ℕ)) → all ≡ replicate n x ++ list → (nulls ≡ AreRefused → IsSome x) → (nulls ≡ AreRefused → NoneNull list) ↔ (nulls ≡ AreRefused → NoneNull all)
given_kept nulls n x list all e s = (
  λ g f. subst NoneNull (sym e) ((null_alike n x list (s f)).0 (g f)),
  λ g f. (null_alike n x list (s f)).1 (subst NoneNull e (g f)),
)

-- ---- actions alike

all_actions : (n : ℕ) (x : Option ℕ) (list : List (Option ℕ)) → IsAction x → AreActions list → AreActions (replicate n x ++ list)
all_actions zero x list s a = a
all_actions (suc n) x list s a = (s, all_actions n x list s a)

pub actions_before : (n : ℕ) (x : Option ℕ) (all list : List (Option ℕ)) → all ≡ replicate n x ++ list → IsAction x → AreActions list → AreActions all
actions_before n x all list e s a = subst AreActions (sym e) (all_actions n x list s a)

-- ---- values whose numbers stand

none_null : (ys : List (Option RawValue)) (ns : List ℕ) → map (option_map metadata) ys ≡ map Some ns → NoneNull ys
none_null [] ns e = tt
none_null (y ∷ ys) [] e = absurd (cc)
none_null (None ∷ ys) (n ∷ ns) e = let no : None ≡ Some n = cc in absurd (cc)
none_null (Some y ∷ ys) (n ∷ ns) e = (refl, none_null ys ns (cc))

-- values that are spelled, and whose numbers stand, are joined, as many
values_standing : (numbers raw : List ℕ) (n : ℕ) (vs : List RawValue) → SpellsValues numbers raw vs → SpellsGiven n numbers → (ys : List (Option RawValue)) × JoinsValues numbers raw ys × NoneNull ys × (length ys ≡ n)
values_standing numbers raw n vs spelled given =
    let found = values_joined numbers raw vs spelled in
    let ys = found.0 in
    let joins = found.1 in
    let same : map (option_map metadata) ys ≡ map Some given.0 = numbers_one.one numbers (map (option_map metadata) ys) (map Some given.0) joins.numbers_are (joins-given JoinsUnsigned numbers_one numbers given.0 given.1) in
    (ys, joins, none_null ys given.0 same, sym (length-map ys (option_map metadata)) ∙ ap length same ∙ length-map given.0 Some ∙ given.2)

pub values_not_given : (numbers raw : List ℕ) (n : ℕ) → ((ys : List (Option RawValue)) → JoinsValues numbers raw ys → NoneNull ys → n < length ys) → (vs : List RawValue) → SpellsValues numbers raw vs → SpellsGiven n numbers → ⊥
values_not_given numbers raw n none vs spelled given =
    let found = values_standing numbers raw n vs spelled given in
    let long : n < length found.0 = none found.0 found.1 found.2 in
    omega (arith, long, found.3)

pub values_not_so_many : (numbers raw : List ℕ) (n : ℕ) (xs : List (Option RawValue)) → JoinsValues numbers raw xs → length xs ≢ n → (vs : List RawValue) → SpellsValues numbers raw vs → SpellsGiven n numbers → ⊥
values_not_so_many numbers raw n xs joins other vs spelled given =
    let found = values_standing numbers raw n vs spelled given in
    other (values-same_length numbers raw xs found.0 joins found.1 ∙ found.3)

pub numbers_stand : (numbers raw : List ℕ) (n : ℕ) (xs : List (Option RawValue)) → JoinsValues numbers raw xs → NoneNull xs → length xs ≡ n → SpellsGiven n numbers
numbers_stand numbers raw n xs joins none e =
    given-told n numbers (map (option_map metadata) xs) (inr joins.numbers_are) (length-map xs (option_map metadata) ∙ e) (none_null-numbers xs none)
