-- Fields of operations, and those of one more.
--     fine_read, field_read ..     the same of what is read as operations, by a function
--     id_fine, id_next ..          one more of ids
use Rattle.std.proofs.Common.{◌≡◌, ℕ, ◌+◌, ◌<◌, ◌≤◌, List, [], ◌∷◌, ◌++◌, length, map, take, get_or, refl, sym, ap, ◌∙◌, subst, append_assoc, arith}
use Rattle.std.specs.Prelude.{All, IfOk, Result, Ok, Err}
use Rattle.std.proofs.lemmas.List.{append-nil, length-map, length-take-le, get_or-map}
use Rattle.std.proofs.lemmas.List.Elements.{All-get_or}
use Rattle.std.proofs.lemmas.List.Sums.{sum_by-cons}
use Rattle.std.proofs.Math.Seq.{take-length}
use Rattle.am_types.specs.declared.OpId.{OpId}
use Rattle.am_types.specs.declared.Op.{Op}
use Rattle.am_types.specs.Fine.{IsId, FineOp, pred_count}
use Rattle.am_values.specs.Columns.{joined}
use Rattle.am_fields.specs.Layout.{flat}
use Rattle.am_fields.proofs.WriteLaws.{take_next, map-next, map2-next, flat-next}

pub pred_count-cons : (op : Op) (ops : List Op) → pred_count (op ∷ ops) ≡ length op.preds + pred_count ops
pred_count-cons op ops = sum_by-cons (λ o. length o.preds) op ops

pub fine_at : (ops : List Op) (i : ℕ) (op : Op) → i < length ops → op ≡ get_or ops i op → All FineOp ops → FineOp op
fine_at ops i op n is fine = subst FineOp (sym is) (All-get_or FineOp ops i op n fine)

-- a field of the first operations
pub field_next : {A : Type 0} (f : Op → A) (ops : List Op) (i : ℕ) (op : Op) → i < length ops → op ≡ get_or ops i op → map f (take (i + 1) ops) ≡ map f (take i ops) ++ f op ∷ []
field_next f ops i op n is = ap (map f) (take_next ops i op n is) ∙ map-next f (take i ops) op

pub all_taken : {X : Type 0} (xs : List X) (i : ℕ) → i ≡ length xs → take i xs ≡ xs
all_taken xs i e = ap (λ n. take n xs) e ∙ take-length xs

pub fused2 : {X A B : Type 0} (f : A → B) (g : X → A) (xs : List X) → map (λ x. f (g x)) xs ≡ map f (map g xs)
fused2 f g [] = refl
fused2 f g (x ∷ xs) = ap (λ zs. f (g x) ∷ zs) (fused2 f g xs)

pub fused3 : {X A B C : Type 0} (f : B → C) (g : A → B) (h : X → A) (xs : List X) → map (λ x. f (g (h x))) xs ≡ map f (map g (map h xs))
fused3 f g h [] = refl
fused3 f g h (x ∷ xs) = ap (λ zs. f (g (h x)) ∷ zs) (fused3 f g h xs)

joined_snoc : (ops : List Op) (op : Op) → joined (map (λ o. o.value) (ops ++ op ∷ [])) ≡ joined (map (λ o. o.value) ops) ++ op.value.raw
joined_snoc [] op = append-nil op.value.raw
joined_snoc (o ∷ ops) op = ap (λ zs. o.value.raw ++ zs) (joined_snoc ops op) ∙ sym (append_assoc o.value.raw (joined (map (λ o. o.value) ops)) op.value.raw)

pub joined_next : (ops : List Op) (i : ℕ) (op : Op) → i < length ops → op ≡ get_or ops i op
    → joined (map (λ o. o.value) (take (i + 1) ops)) ≡ joined (map (λ o. o.value) (take i ops)) ++ op.value.raw
joined_next ops i op n is = ap (λ zs. joined (map (λ o. o.value) zs)) (take_next ops i op n is) ∙ joined_snoc (take i ops) op

-- ---- what is read as operations

pub in_read : {X : Type 0} (o : X → Op) (xs : List X) (i : ℕ) → i < length xs → i < length (map o xs)
in_read o xs i n = omega (arith, length-map xs o)

pub at_read : {X : Type 0} (o : X → Op) (xs : List X) (i : ℕ) (x : X) → i < length xs → x ≡ get_or xs i x → o x ≡ get_or (map o xs) i (o x)
at_read o xs i x n is = ap o is ∙ sym (get_or-map o xs i x (o x) n)

pub fine_read : {X : Type 0} (o : X → Op) (xs : List X) (i : ℕ) (x : X) → i < length xs → x ≡ get_or xs i x → All FineOp (map o xs) → FineOp (o x)
fine_read o xs i x n is = fine_at (map o xs) i (o x) (in_read o xs i n) (at_read o xs i x n is)

pub field_read : {X A : Type 0} (o : X → Op) (f : Op → A) (xs : List X) (i : ℕ) (x : X) → i < length xs → x ≡ get_or xs i x → map f (take (i + 1) (map o xs)) ≡ map f (take i (map o xs)) ++ f (o x) ∷ []
field_read o f xs i x n is = field_next f (map o xs) i (o x) (in_read o xs i n) (at_read o xs i x n is)

pub joined_read : {X : Type 0} (o : X → Op) (xs : List X) (i : ℕ) (x : X) → i < length xs → x ≡ get_or xs i x
    → joined (map (λ p. p.value) (take (i + 1) (map o xs))) ≡ joined (map (λ p. p.value) (take i (map o xs))) ++ (o x).value.raw
joined_read o xs i x n is = joined_next (map o xs) i (o x) (in_read o xs i n) (at_read o xs i x n is)

pub all_read : {X : Type 0} (o : X → Op) (xs : List X) (i : ℕ) → i ≡ length xs → take i (map o xs) ≡ map o xs
all_read o xs i e = all_taken (map o xs) i (e ∙ sym (length-map xs o))

pub length_read : {X : Type 0} (o : X → Op) (xs : List X) (i : ℕ) → i ≤ length xs → length (take i (map o xs)) ≡ i
length_read o xs i n = length-take-le i (map o xs) (omega (arith, length-map xs o))

-- a field of so many of them
pub length_fields : {X A : Type 0} (o : X → Op) (f : Op → A) (xs : List X) (i : ℕ) → i ≤ length xs → length (map f (take i (map o xs))) ≡ i
length_fields o f xs i n = length-map (take i (map o xs)) f ∙ length_read o xs i n

-- their predecessors
pub preds_read : {X : Type 0} (o : X → Op) (xs : List X) (i : ℕ) (x : X) → i < length xs → x ≡ get_or xs i x
    → flat (map (λ p. p.preds) (take (i + 1) (map o xs))) ≡ flat (map (λ p. p.preds) (take i (map o xs))) ++ (o x).preds
preds_read o xs i x n is = ap (λ zs. flat (map (λ p. p.preds) zs)) (take_next (map o xs) i (o x) (in_read o xs i n) (at_read o xs i x n is)) ∙ flat-next (λ p. p.preds) (take i (map o xs)) (o x)

-- ---- one of ids

pub id_fine : (ids : List OpId) (i : ℕ) (id : OpId) → i < length ids → id ≡ get_or ids i id → All IsId ids → IsId id
id_fine ids i id n is all = subst IsId (sym is) (All-get_or IsId ids i id n all)

pub id_next : {A : Type 0} (f : OpId → A) (ids : List OpId) (i : ℕ) (id : OpId) → i < length ids → id ≡ get_or ids i id → map f (take (i + 1) ids) ≡ map f (take i ids) ++ f id ∷ []
id_next f ids i id n is = ap (map f) (take_next ids i id n is) ∙ map-next f (take i ids) id

pub id_next2 : {A B : Type 0} (g : A → B) (f : OpId → A) (ids : List OpId) (i : ℕ) (id : OpId) → i < length ids → id ≡ get_or ids i id
    → map g (map f (take (i + 1) ids)) ≡ map g (map f (take i ids)) ++ g (f id) ∷ []
id_next2 g f ids i id n is = ap (λ zs. map g (map f zs)) (take_next ids i id n is) ∙ map2-next g f (take i ids) id

pub ok_then : {A E : Type 0} (r : Result A E) (P Q : A → Type 0) → ((x : A) → P x → Q x) → IfOk r P → IfOk r Q
ok_then (Ok x) P Q f p = f x p
ok_then (Err e) P Q f p = tt
