-- Parts of columns that are copied.
use Rattle.std.proofs.Common.{◌≡◌, ℕ, zero, suc, ◌+◌, ◌*◌, ◌-◌, ◌≤◌, List, [], ◌∷◌, ◌++◌, length, take, drop, map, Option, Some, None, refl, sym, ap, ◌∙◌, arith}
use Rattle.std.specs.Prelude.{replicate, unwrap_or}
use Rattle.std.proofs.lemmas.List.{take-append-drop, drop-drop, length-drop, length-map, length-replicate, length-take-le}
use Rattle.std.proofs.Math.Seq.{take-add}
use Rattle.am_runs.proofs.Parts.{part_is}
use Rattle.am_runs.proofs.Spelled.{map_take, map_drop}
use Rattle.am_values.specs.Columns.{NoneNull}
use Rattle.am_fields.specs.Groups.{AreActions, givens, counts, parts, total}
use Rattle.am_fields.specs.Layout.{flat}
use Rattle.am_fields.proofs.GroupLaws.{some-givens, lengths-parts, length-parts, length-counts}
use Rattle.am_fields.proofs.Moves.{moved_part, moved_behind}

-- ---- items that all stand

pub first_givens : {A : Type 0} (n : ℕ) (xs : List (Option A)) → NoneNull xs → take n xs ≡ map Some (take n (givens xs))
first_givens n xs given = ap (take n) (sym (some-givens xs given)) ∙ sym (map_take Some n (givens xs))

pub givens_behind : {A : Type 0} (n : ℕ) (xs : List (Option A)) → NoneNull xs → givens (drop n xs) ≡ drop n (givens xs)
givens_behind zero xs given = refl
givens_behind (suc n) [] given = refl
givens_behind (suc n) (None ∷ xs) given = absurd (let e = given.0 in cc)
givens_behind (suc n) (Some x ∷ xs) given = givens_behind n xs given.1

pub actions_behind : (n : ℕ) (xs : List (Option ℕ)) → AreActions xs → AreActions (drop n xs)
actions_behind zero xs all = all
actions_behind (suc n) [] all = tt
actions_behind (suc n) (x ∷ xs) all = actions_behind n xs all.1

-- ---- lists one after another

pub total_both : (xs ys : List ℕ) → total (xs ++ ys) ≡ total xs + total ys
total_both [] ys = omega arith
total_both (x ∷ xs) ys = let more = total_both xs ys in omega arith

pub total_alike : (k x : ℕ) → total (replicate k x) ≡ k * x
total_alike zero x = omega arith
total_alike (suc k) x = let more = total_alike k x in omega arith

total_parts : (n : ℕ) (ns : List ℕ) → total (take n ns) + total (drop n ns) ≡ total ns
total_parts n ns = sym (total_both (take n ns) (drop n ns)) ∙ ap total (take-append-drop n ns)

flat_first : {A : Type 0} (n : ℕ) (ns : List ℕ) (xs : List A) → flat (take n (parts ns xs)) ≡ take (total (take n ns)) xs
flat_first zero ns xs = refl
flat_first (suc n) [] xs = refl
flat_first (suc n) (m ∷ ns) xs = ap (λ l. take m xs ++ l) (flat_first n ns (drop m xs)) ∙ sym (take-add m (total (take n ns)) xs)

parts_behind : {A : Type 0} (n : ℕ) (ns : List ℕ) (xs : List A) → parts (drop n ns) (drop (total (take n ns)) xs) ≡ drop n (parts ns xs)
parts_behind zero ns xs = refl
parts_behind (suc n) [] xs = refl
parts_behind (suc n) (m ∷ ns) xs = ap (parts (drop n ns)) (sym (drop-drop (total (take n ns)) m xs)) ∙ parts_behind n ns (drop m xs)

-- the first n lists, their items and lengths, and what is behind
pub record AreCopied {A : Type 0} (n sum : ℕ) (xs xs' : List (Option ℕ)) (items items' : List A) (shown : List (List A)) : Type 0 where
  pub enough : sum ≤ length items
  pub flat_is : take sum items ≡ flat (take n shown)
  pub lengths_are : take n (map Some (counts xs)) ≡ map Some (map length (take n shown))
  pub behind : parts (counts xs') items' ≡ drop n shown
  pub whole : total (counts xs') ≡ length items'

pub are_copied : {A : Type 0} (n sum : ℕ) (xs xs' : List (Option ℕ)) (items items' : List A) (shown : List (List A)) → total (counts xs) ≡ length items → parts (counts xs) items ≡ shown → sum ≡ total (take n (counts xs)) → xs' ≡ drop n xs → items' ≡ drop sum items → AreCopied n sum xs xs' items items' shown
are_copied n sum xs xs' items items' shown whole e s p q =
    let ns = counts xs in
    let both = total_parts n ns in
    let rest : counts xs' ≡ drop n ns = ap counts p ∙ map_drop (λ x. unwrap_or x 0) n xs in
    let items_are : items' ≡ drop (total (take n ns)) items = q ∙ ap (λ m. drop m items) s in
    record {
      enough = omega (arith, s, both, whole);
      flat_is = ap (λ m. take m items) s ∙ sym (flat_first n ns items) ∙ ap (λ l. flat (take n l)) e;
      lengths_are = sym (map_take Some n ns) ∙ ap (λ l. map Some (take n l)) (sym (lengths-parts ns items whole) ∙ ap (map length) e) ∙ ap (map Some) (sym (map_take length n shown));
      behind = ap (λ l. parts l items') rest ∙ ap (parts (drop n ns)) items_are ∙ parts_behind n ns items ∙ ap (drop n) e;
      whole = omega (arith, ap total rest, both, whole, ap length items_are, length-drop (total (take n ns)) items);
    }

-- ---- lengths, by runs

pub lengths_part : (k : ℕ) (x : Option ℕ) (from new : List (Option ℕ)) → from ≡ replicate k x ++ new → counts from ≡ replicate k (unwrap_or x 0) ++ counts new
lengths_part k x from new e = moved_part (λ y. unwrap_or y 0) k x from new e

pub given_part : (k : ℕ) (x : Option ℕ) (from new : List (Option ℕ)) → from ≡ replicate k x ++ new → map Some (counts from) ≡ replicate k (Some (unwrap_or x 0)) ++ map Some (counts new)
given_part k x from new e = moved_part Some k (unwrap_or x 0) (counts from) (counts new) (lengths_part k x from new e)

pub given_behind : (m : ℕ) (whole from : List (Option ℕ)) → from ≡ drop m whole → map Some (counts from) ≡ drop m (map Some (counts whole))
given_behind m whole from e = moved_behind Some m (counts whole) (counts from) (moved_behind (λ y. unwrap_or y 0) m whole from e)

-- the next run counts within all
pub sum_within : (whole from new : List (Option ℕ)) (x : Option ℕ) (n left k sum : ℕ) → sum ≡ total (take (n - left) (counts whole)) → from ≡ drop (n - left) whole → from ≡ replicate k x ++ new → sum + k * unwrap_or x 0 ≤ total (counts whole)
sum_within whole from new x n left k sum s b f =
    let rest : counts from ≡ drop (n - left) (counts whole) = moved_behind (λ y. unwrap_or y 0) (n - left) whole from b in
    omega (arith, s, total_parts (n - left) (counts whole), ap total rest, ap total (lengths_part k x from new f), total_both (replicate k (unwrap_or x 0)) (counts new), total_alike k (unwrap_or x 0))

pub sum_part : (whole from new : List (Option ℕ)) (x : Option ℕ) (n left k sum : ℕ) → k ≤ left → left ≤ n → n ≤ length whole → sum ≡ total (take (n - left) (counts whole)) → from ≡ drop (n - left) whole → from ≡ replicate k x ++ new → sum + k * unwrap_or x 0 ≡ total (take (n - (left - k)) (counts whole))
sum_part whole from new x n left k sum kl l e s b f =
    let v = unwrap_or x 0 in
    let all : n ≤ length (counts whole) = omega (arith, e, length-map whole (λ y. unwrap_or y 0)) in
    let part = part_is (counts whole) (counts from) (counts new) (replicate k v) n left k (length-replicate k v) kl l all (moved_behind (λ y. unwrap_or y 0) (n - left) whole from b) (lengths_part k x from new f) in
    omega (arith, s, ap total part, total_both (take (n - left) (counts whole)) (replicate k v), total_alike k v)

-- what a run counts, and what is behind it
pub total_part : (from new : List (Option ℕ)) (x : Option ℕ) (k : ℕ) → from ≡ replicate k x ++ new → total (counts from) ≡ k * unwrap_or x 0 + total (counts new)
total_part from new x k f = omega (arith, ap total (lengths_part k x from new f), total_both (replicate k (unwrap_or x 0)) (counts new), total_alike k (unwrap_or x 0))

-- before the items are taken
pub group_room : {A : Type 0} (n sum : ℕ) (xs : List (Option ℕ)) (items : List A) (shown : List (List A)) → total (counts xs) ≡ length items → parts (counts xs) items ≡ shown → sum ≡ total (take n (counts xs)) → (sum ≤ length items) × (length (flat (take n shown)) ≡ sum)
group_room n sum xs items shown whole e s =
    let w = are_copied n sum xs (drop n xs) items (drop sum items) shown whole e s refl refl in
    (w.enough, sym (ap length w.flat_is) ∙ length-take-le sum items w.enough)

pub group_count : {A : Type 0} (xs : List (Option ℕ)) (items : List A) (shown : List (List A)) → parts (counts xs) items ≡ shown → length shown ≡ length xs
group_count xs items shown e = ap length (sym e) ∙ length-parts (counts xs) items ∙ length-counts xs
