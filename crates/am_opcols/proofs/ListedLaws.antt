-- The other actors that are listed, against those that operations name.
--     Distinct-from_up     actors that ascend, behind an author who isn't one of them, are distinct
--     own_others           they are the others of the operations, if these name them all, and name no more
--     named_listed         operations that columns spell name no more
--     others_listed        the others of operations ascend without the author, and are named
use Rattle.std.proofs.Common.{◌≡◌, ℕ, List, [], ◌∷◌, ◌++◌, map, refl, sym, ap, ◌∙◌, subst, Less, Equal, Option, Some, None, ◌⊎◌, inl, inr, ⊎_elim}
use Rattle.std.specs.List.{flat_map, AllByRecursion}
use Rattle.std.specs.Option.{option_to_list}
use Rattle.std.proofs.lemmas.Cmp.{nat_list_cmp_total, tied_itself}
use Rattle.std.proofs.lemmas.List.{map-append}
use Rattle.am_types.specs.declared.OpId.{OpId}
use Rattle.am_types.specs.declared.Op.{Op}
use Rattle.am_types.specs.Order.{bytes_cmp}
use Rattle.am_fields.specs.Layout.{object_actor, key_actor, id_actor, flat}
use Rattle.am_fields.specs.Actors.{IsListed}
use Rattle.am_opcols.specs.Others.{actors_of, others}
use Rattle.am_opcols.specs.Chains.{Chain, ChainFrom}
use Rattle.am_opcols.specs.EachColumn.{AreNamed}
use Rattle.am_opcols.proofs.Named.{others_there}
use Rattle.am_opcols.proofs.NamedAlone.{others_alone, others_up}
use Rattle.am_opcols.proofs.EachColumnLaws.{Distinct, IsNamed}

-- ---- ascending actors

not_below_itself : (a : List ℕ) → bytes_cmp a a ≡ Less → ⊥
not_below_itself a e = let same : bytes_cmp a a ≡ Equal = tied_itself nat_list_cmp_total a in absurd (cc)

above : (before : List ℕ) (xs : List (List ℕ)) (a : List ℕ) → ChainFrom bytes_cmp before xs → IsListed xs a → bytes_cmp before a ≡ Less
above before [] a up h = absurd h
above before (x ∷ xs) a up h = ⊎_elim
    (λ e. subst (λ b. bytes_cmp before b ≡ Less) (sym e) up.0)
    (λ m. nat_list_cmp_total.trans before x a up.0 (above x xs a up.1 m))
    h

not_behind : (x : List ℕ) (xs : List (List ℕ)) → ChainFrom bytes_cmp x xs → IsListed xs x → ⊥
not_behind x xs up h = not_below_itself x (above x xs x up h)

up_rest : (x : List ℕ) (xs : List (List ℕ)) → ChainFrom bytes_cmp x xs → Chain bytes_cmp xs
up_rest x [] up = tt
up_rest x (y ∷ xs) up = up.1

distinct : (xs : List (List ℕ)) → Chain bytes_cmp xs → Distinct xs
distinct [] up = tt
distinct (x ∷ xs) up = (not_behind x xs up, distinct xs (up_rest x xs up))

pub Distinct-from_up : (author : List ℕ) (xs : List (List ℕ)) → Chain bytes_cmp xs → (IsListed xs author → ⊥) → Distinct (author ∷ xs)
Distinct-from_up author xs up n = (n, distinct xs up)

-- two that ascend and have the same members are the same

same_up : (xs ys : List (List ℕ)) → Chain bytes_cmp xs → Chain bytes_cmp ys → ((a : List ℕ) → IsListed xs a → IsListed ys a) → ((a : List ℕ) → IsListed ys a → IsListed xs a) → xs ≡ ys
same_up [] [] p q f g = refl
same_up [] (y ∷ ys) p q f g = absurd (g y (inl refl))
same_up (x ∷ xs) [] p q f g = absurd (f x (inl refl))
same_up (x ∷ xs) (y ∷ ys) p q f g =
    ap (λ z. z ∷ xs) first ∙ ap (λ l. y ∷ l) (same_up xs ys (up_rest x xs p) (up_rest y ys q)
    (λ a h. ⊎_elim (λ e. absurd (not_behind x xs p (subst (IsListed xs) (e ∙ sym first) h))) (λ m. m) (f a (inr h)))
    (λ a h. ⊎_elim (λ e. absurd (not_behind y ys q (subst (IsListed ys) (e ∙ first) h))) (λ m. m) (g a (inr h))))
  where
    first : x ≡ y
    first = ⊎_elim
        (λ e. e)
        (λ m. ⊎_elim (λ e. sym e) (λ n. absurd (not_below_itself x (nat_list_cmp_total.trans x y x (above x xs y p n) (above y ys x q m)))) (g y (inl refl)))
        (f x (inl refl))

all_at : (P : List ℕ → Type 0) (xs : List (List ℕ)) → AllByRecursion P xs → (a : List ℕ) → IsListed xs a → P a
all_at P [] all a h = absurd h
all_at P (x ∷ xs) all a h = ⊎_elim (λ e. subst P (sym e) all.0) (λ m. all_at P xs all.1 a m) h

at_all : (P : List ℕ → Type 0) (xs : List (List ℕ)) → ((a : List ℕ) → IsListed xs a → P a) → AllByRecursion P xs
at_all P [] f = tt
at_all P (x ∷ xs) f = (f x (inl refl), at_all P xs (λ a h. f a (inr h)))

pub own_others : (author : List ℕ) (ops : List Op) (xs : List (List ℕ)) → Chain bytes_cmp xs → (IsListed xs author → ⊥) → AreNamed xs ops → ((a : List ℕ) → IsListed (flat_map actors_of ops) a → IsListed (author ∷ xs) a) → xs ≡ others author ops
own_others author ops xs up n named listed = same_up xs (others author ops) up (others_up author (flat_map actors_of ops) [] tt)
    (λ a h. ⊎_elim (λ e. absurd (n (subst (IsListed xs) e h))) (λ m. m) (others_there author (flat_map actors_of ops) [] a (all_at (IsListed (flat_map actors_of ops)) xs named a h)))
    (λ a h. ⊎_elim
    (λ w. ⊎_elim (λ e. absurd (w.1 e)) (λ m. m) (listed a w.0))
    (λ z. absurd z)
    (others_alone author (flat_map actors_of ops) [] a h))

pub others_are_named : (author : List ℕ) (ops : List Op) → Chain bytes_cmp (others author ops) × (IsListed (others author ops) author → ⊥) × AreNamed (others author ops) ops
others_are_named author ops =
    let alone = others_alone author (flat_map actors_of ops) [] in (
      others_up author (flat_map actors_of ops) [] tt,
      λ h. ⊎_elim (λ w. w.1 refl) (λ z. z) (alone author h),
      at_all (IsListed (flat_map actors_of ops)) (others author ops) (λ a h. ⊎_elim (λ w. w.0) (λ z. absurd z) (alone a h)),
    )

-- ---- what operations name

pub there_either : (xs ys : List (List ℕ)) (a : List ℕ) → IsListed (xs ++ ys) a → IsListed xs a ⊎ IsListed ys a
there_either [] ys a h = inr h
there_either (x ∷ xs) ys a h = ⊎_elim (λ e. inl (inl e)) (λ m. ⊎_elim (λ l. inl (inr l)) (λ r. inr r) (there_either xs ys a m)) h

named_front : (n : Option (List ℕ)) (names : List (Option (List ℕ))) (a : List ℕ) → IsListed (option_to_list n) a → IsNamed (n ∷ names) a
named_front None names a h = absurd h
named_front (Some b) names a h = ⊎_elim (λ e. inl e) (λ z. absurd z) h

named_behind : (n : Option (List ℕ)) (names : List (Option (List ℕ))) (a : List ℕ) → IsNamed names a → IsNamed (n ∷ names) a
named_behind None names a h = h
named_behind (Some b) names a h = inr h

ids_named : (ids : List OpId) (a : List ℕ) → IsListed (map (λ id. id.actor) ids) a → IsNamed (map id_actor ids) a
ids_named [] a h = absurd h
ids_named (id ∷ ids) a h = ⊎_elim (λ e. inl e) (λ m. inr (ids_named ids a m)) h

named_left : (xs ys : List (Option (List ℕ))) (a : List ℕ) → IsNamed xs a → IsNamed (xs ++ ys) a
named_left [] ys a h = absurd h
named_left (None ∷ xs) ys a h = named_left xs ys a h
named_left (Some b ∷ xs) ys a h = ⊎_elim (λ e. inl e) (λ m. inr (named_left xs ys a m)) h

named_right : (xs ys : List (Option (List ℕ))) (a : List ℕ) → IsNamed ys a → IsNamed (xs ++ ys) a
named_right [] ys a h = h
named_right (None ∷ xs) ys a h = named_right xs ys a h
named_right (Some b ∷ xs) ys a h = inr (named_right xs ys a h)

-- an actor that operations name is one of their objects, of their keys or of their predecessors
pub named_somewhere : (ops : List Op) (a : List ℕ) → IsListed (flat_map actors_of ops) a
    → IsNamed (map object_actor (map (λ o. o.obj) ops)) a ⊎ (IsNamed (map key_actor (map (λ o. o.key) ops)) a ⊎ IsNamed (map id_actor (flat (map (λ o. o.preds) ops))) a)
named_somewhere [] a h = absurd h
named_somewhere (o ∷ ops) a h =
    let os = option_to_list (object_actor o.obj) in
    let ks = option_to_list (key_actor o.key) in
    let ps = map (λ id. id.actor) o.preds in
    let rest = flat (map (λ x. x.preds) ops) in
    let P : List (Option (List ℕ)) → Type 0 = λ names. IsNamed names a in
    let joined = sym (map-append id_actor o.preds rest) in
    ⊎_elim
    (λ here. ⊎_elim
    (λ first. ⊎_elim
    (λ t. inl (named_front (object_actor o.obj) (map object_actor (map (λ x. x.obj) ops)) a t))
    (λ t. inr (inl (named_front (key_actor o.key) (map key_actor (map (λ x. x.key) ops)) a t)))
    (there_either os ks a first))
    (λ t. inr (inr (subst P joined (named_left (map id_actor o.preds) (map id_actor rest) a (ids_named o.preds a t)))))
    (there_either (os ++ ks) ps a here))
    (λ later. ⊎_elim
    (λ t. inl (named_behind (object_actor o.obj) (map object_actor (map (λ x. x.obj) ops)) a t))
    (λ more. ⊎_elim
    (λ t. inr (inl (named_behind (key_actor o.key) (map key_actor (map (λ x. x.key) ops)) a t)))
    (λ t. inr (inr (subst P joined (named_right (map id_actor o.preds) (map id_actor rest) a t))))
    more)
    (named_somewhere ops a later))
    (there_either (actors_of o) (flat_map actors_of ops) a h)
