-- What a reader finds, against any fine change with the same contents.
use Rattle.std.proofs.Common.{◌≡◌, ℕ, ◌<◌, ◌≤◌, ◌^◌, List, [], ◌∷◌, ◌++◌, length, map, take, drop, refl, sym, ap, ◌∙◌, subst, arith, inl, inr, ◌⊎◌}
use Rattle.std.specs.Prelude.{Result, Ok, Err, bytes_eq, not, Bool, true, false}
use Rattle.std.proofs.lemmas.Slice.Eq.{bytes_eq-Decides}
use Rattle.std.specs.List.{AllByRecursion}
use Rattle.std.proofs.lemmas.List.{length-append, take_at, drop_at}
use Rattle.am_types.specs.declared.Op.{Op}
use Rattle.am_types.specs.declared.Change.{Change}
use Rattle.am_types.specs.Fine.{Fine}
use Rattle.am_colmeta.specs.declared.ColumnFault.{ColumnFault}
use Rattle.am_colmeta.specs.Metadata.{listing, body, total}
use Rattle.am_colmeta.specs.Judgement.{AreCompressed}
use Rattle.am_colmeta.specs.Judgement as columns
use Rattle.am_colmeta.proofs.Cutting.{total-listing}
use Rattle.am_colmeta.proofs.Judging as judging
use Rattle.am_types.specs.Values.{Good}
use Rattle.am_values.specs.Columns.{AllGood}
use Rattle.am_fields.specs.Limits.{IsWithin, IsObjectWithin, IsKeyWithin}
use Rattle.am_fields.specs.Layout.{flat}
use Rattle.am_opcols.specs.Columns.{op_specifications, AreOpsWithin, SpellsOps}
use Rattle.am_opcols.specs.Writing.{written_columns}
use Rattle.am_opcols.proofs.OneReading.{ops-same}
use Rattle.am_change.specs.declared.fault.ChangeFault.{ChangeFault}
use Rattle.am_change.specs.declared.fault.ChangeFault.TheVariants.{BadChange, CompressedColumn, NoMemory}
use Rattle.am_change.specs.Contents.{contents}
use Rattle.am_change.specs.Fronts.{Front, front_bytes, front, IsFront, IsCompressed}
use Rattle.am_change.specs.Building.{change_with, IsOpWithin}
use Rattle.am_change.specs.Judgement.{Judges}
use Rattle.am_change.proofs.FrontLaws.{front-splits}
use Rattle.am_change.proofs.ContentsLaws.{contents-front, not_compressed, columns_judged, deps_sized, is_front, own_ops, contents-same}

-- where a front was read that lists no compressed column, the bytes don't count as compressed
pub plain_front : (bytes : List ℕ) (f : Front) (rest : List ℕ) → IsFront f → bytes ≡ front_bytes f ++ rest → (AreCompressed f.listed → ⊥) → IsCompressed bytes → ⊥
plain_front bytes f rest is e none k =
    let same = front-splits f k.parts rest k.rest is.hashes (k.is_front).hashes (sym e ∙ k.bytes_are) in
    none (subst (λ (g : Front). AreCompressed g.listed) (sym same.0) k.compressed)

-- nor do the contents of a fine change
pub fine_plain : (bytes : List ℕ) (c : Change) → Fine c → bytes ≡ contents c → IsCompressed bytes → ⊥
fine_plain bytes c fine e k =
    let same = front-splits (front c) k.parts (body (written_columns c.actor c.ops) ++ c.extra) k.rest (deps_sized c fine) (k.is_front).hashes (sym (contents-front c) ∙ sym e ∙ k.bytes_are) in
    not_compressed c.actor c.ops (subst (λ (g : Front). AreCompressed g.listed) (sym same.0) k.compressed)

short_as : (bytes : List ℕ) (c : Change) → length bytes < 2 ^ 64 → bytes ≡ contents c → length (contents c) < 2 ^ 64
short_as bytes c s e = subst (λ (b : List ℕ). length b < 2 ^ 64) e s

-- no front stands there
pub no_front : (bytes : List ℕ) → length bytes < 2 ^ 64 → ((f : Front) (rest : List ℕ) → IsFront f → bytes ≡ front_bytes f ++ rest → ⊥) → Judges bytes (Err BadChange)
no_front bytes s none = (
  λ k. none k.parts k.rest k.is_front k.bytes_are,
  λ c fine e. none (front c) (body (written_columns c.actor c.ops) ++ c.extra) (is_front c fine (short_as bytes c s e)) (e ∙ contents-front c),
)

-- a front stands there, and no fine change has it with what is behind it
pub no_change : (bytes : List ℕ) (f : Front) (rest : List ℕ) → length bytes < 2 ^ 64 → IsFront f → bytes ≡ front_bytes f ++ rest → (AreCompressed f.listed → ⊥)
    → ((c : Change) → Fine c → length (contents c) < 2 ^ 64 → f ≡ front c → rest ≡ body (written_columns c.actor c.ops) ++ c.extra → bytes ≡ contents c → ⊥) → Judges bytes (Err BadChange)
no_change bytes f rest s is e plain none = (
  plain_front bytes f rest is e plain,
  λ c fine b.
      let same = front-splits f (front c) rest (body (written_columns c.actor c.ops) ++ c.extra) is.hashes (deps_sized c fine) (sym e ∙ b ∙ contents-front c) in
      none c fine (short_as bytes c s b) same.0 same.1 b,
)

-- behind the front

pub fits_behind : (f : Front) (rest : List ℕ) (c : Change) → f ≡ front c → rest ≡ body (written_columns c.actor c.ops) ++ c.extra → total f.listed ≤ length rest
fits_behind f rest c e r =
    let t : total f.listed ≡ length (body (written_columns c.actor c.ops)) = ap (λ g. total g.listed) e ∙ total-listing (written_columns c.actor c.ops) in
    omega (arith, ap length r, length-append (body (written_columns c.actor c.ops)) c.extra)

pub parts_behind : (f : Front) (rest : List ℕ) (c : Change) (n : ℕ) → f ≡ front c → rest ≡ body (written_columns c.actor c.ops) ++ c.extra → n ≡ total f.listed → (take n rest ≡ body (written_columns c.actor c.ops)) × (drop n rest ≡ c.extra)
parts_behind f rest c n e r m =
    let columns_are = body (written_columns c.actor c.ops) in
    let size : length columns_are ≡ n = sym (m ∙ ap (λ g. total g.listed) e ∙ total-listing (written_columns c.actor c.ops)) in
    (ap (take n) r ∙ take_at columns_are c.extra n size, ap (drop n) r ∙ drop_at columns_are c.extra n size)

pub judged_as : (f : Front) (bytes : List ℕ) (c : Change) (r : Result (List (ℕ × List ℕ)) ColumnFault) → f ≡ front c → bytes ≡ body (written_columns c.actor c.ops) → columns.Judges f.listed bytes op_specifications r → r ≡ Ok (written_columns c.actor c.ops)
judged_as f bytes c r e b j =
    let cs = written_columns c.actor c.ops in
    judging.one_judgement (listing cs) (body cs) op_specifications r (Ok cs) (subst (λ (x : List ℕ). columns.Judges (listing cs) x op_specifications r) b (subst (λ (g : Front). columns.Judges g.listed bytes op_specifications r) e j)) (columns_judged c.actor c.ops)

-- the operations of the change, as columns that are those of the change spell them
pub ops_as : (f : Front) (cs : List (ℕ × List ℕ)) (c : Change) → Fine c → length (contents c) < 2 ^ 64 → f ≡ front c → cs ≡ written_columns c.actor c.ops → SpellsOps (f.actor ∷ f.others) cs c.ops
ops_as f cs c fine s e k =
    subst (λ (zs : List (ℕ × List ℕ)). SpellsOps (f.actor ∷ f.others) zs c.ops) (sym k)
    (subst (λ (g : Front). SpellsOps (g.actor ∷ g.others) (written_columns c.actor c.ops) c.ops) (sym e) (own_ops c fine s))

pub one_ops : (f : Front) (cs : List (ℕ × List ℕ)) (ops : List Op) (c : Change) → Fine c → length (contents c) < 2 ^ 64 → f ≡ front c → cs ≡ written_columns c.actor c.ops → SpellsOps (f.actor ∷ f.others) cs ops → ops ≡ c.ops
one_ops f cs ops c fine s e k spelled = ops-same (f.actor ∷ f.others) cs ops c.ops spelled (ops_as f cs c fine s e k)

-- each operation is within its limits

split_all : {A : Type 0} (P : A → Type 0) (xs ys : List A) → AllByRecursion P (xs ++ ys) → AllByRecursion P xs × AllByRecursion P ys
split_all P [] ys all = (tt, all)
split_all P (x ∷ xs) ys all = let more = split_all P xs ys all.1 in ((all.0, more.0), more.1)

each_within : (ops : List Op) → AllByRecursion IsObjectWithin (map (λ o. o.obj) ops) → AllByRecursion IsKeyWithin (map (λ o. o.key) ops) → AllByRecursion IsWithin (flat (map (λ o. o.preds) ops)) → AllByRecursion IsOpWithin ops
each_within [] a b d = tt
each_within (o ∷ ops) a b d =
    let parts = split_all IsWithin o.preds (flat (map (λ o. o.preds) ops)) d in
    (record { object = a.0; key = b.0; preds = parts.0 }, each_within ops a.1 b.1 parts.1)

pub ops_within : (ops : List Op) → AreOpsWithin ops → AllByRecursion IsOpWithin ops
ops_within ops w = each_within ops w.objects w.keys w.preds

pub good_values : (ops : List Op) → AllGood (map (λ o. o.value) ops) → AllByRecursion (λ (op : Op). Good op.value) ops
good_values [] all = tt
good_values (o ∷ ops) all = (all.0, good_values ops all.1)

-- the change of these parts
pub same_change : (f : Front) (ops : List Op) (extra : List ℕ) (c : Change) → f ≡ front c → ops ≡ c.ops → extra ≡ c.extra → change_with f ops extra ≡ c
same_change f ops extra c e o x = ap (λ g. change_with g ops extra) e ∙ ap (λ z. change_with (front c) z extra) o ∙ ap (λ z. change_with (front c) c.ops z) x

-- judgements

pub completed : (bytes : List ℕ) (r : Result Change ChangeFault) → length bytes < 2 ^ 64 → Judges bytes r → (c : Change) → Fine c → bytes ≡ contents c → (r ≡ Ok c) ⊎ (r ≡ Err NoMemory)
completed bytes (Ok d) s j c fine e = inl (ap Ok (contents-same d c j.0 fine (short_as bytes d s j.1) (sym j.1 ∙ e)))
completed bytes (Err BadChange) s j c fine e = absurd (j.1 c fine e)
completed bytes (Err CompressedColumn) s j c fine e = absurd (fine_plain bytes c fine e j)
completed bytes (Err NoMemory) s j c fine e = inr refl

pub one_judgement : (bytes : List ℕ) (x y : Result Change ChangeFault) → length bytes < 2 ^ 64 → Judges bytes x → Judges bytes y → (x ≡ Err NoMemory) ⊎ ((y ≡ Err NoMemory) ⊎ (x ≡ y))
one_judgement bytes (Err NoMemory) y s h k = inl refl
one_judgement bytes (Ok c) (Ok d) s h k = inr (inr (ap Ok (contents-same c d h.0 k.0 (short_as bytes c s h.1) (sym h.1 ∙ k.1))))
one_judgement bytes (Ok c) (Err BadChange) s h k = absurd (k.1 c h.0 h.1)
one_judgement bytes (Ok c) (Err CompressedColumn) s h k = absurd (fine_plain bytes c h.0 h.1 k)
one_judgement bytes (Ok c) (Err NoMemory) s h k = inr (inl refl)
one_judgement bytes (Err BadChange) (Ok d) s h k = absurd (h.1 d k.0 k.1)
one_judgement bytes (Err BadChange) (Err BadChange) s h k = inr (inr refl)
one_judgement bytes (Err BadChange) (Err CompressedColumn) s h k = absurd (h.0 k)
one_judgement bytes (Err BadChange) (Err NoMemory) s h k = inr (inl refl)
one_judgement bytes (Err CompressedColumn) (Ok d) s h k = absurd (fine_plain bytes d k.0 k.1 h)
one_judgement bytes (Err CompressedColumn) (Err BadChange) s h k = absurd (k.0 h)
one_judgement bytes (Err CompressedColumn) (Err CompressedColumn) s h k = inr (inr refl)
one_judgement bytes (Err CompressedColumn) (Err NoMemory) s h k = inr (inl refl)

pub same_bytes : (a b : List ℕ) → false ≡ not (bytes_eq a b) → a ≡ b
same_bytes a b e = by_answer (bytes_eq a b) refl e
  where
    by_answer : (t : Bool) → bytes_eq a b ≡ t → false ≡ not t → a ≡ b
    by_answer true is e = (bytes_eq-Decides a b).0 is
    by_answer false is e = absurd (cc)
