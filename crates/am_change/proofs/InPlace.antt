-- A change that is judged in its contents.
--     chain_first, chain_next, chain_none     along hashes that stand one after another
--     whole_fine, whole_back     the change of parts is fine just where what stands beside fine operations passes the tests
--     own_front            the front of the change of parts is that of which it was made
--     canonical_as         parts of a fine change are canonical
--     own_contents         so contents with canonical columns are those of the change that was read
use Rattle.std.proofs.Common.{◌≡◌, ℕ, zero, suc, ◌-◌, ◌*◌, ◌<◌, ◌≤◌, ◌^◌, List, ◌++◌, length, take, drop, refl, sym, ap, ◌∙◌, subst, arith, Less, All, ◌↔◌}
use Rattle.std.specs.Prelude.{IsUtf8}
use Rattle.std.specs.List.{AllByRecursion}
use Rattle.std.proofs.lemmas.List.{length-take-le, length-drop}
use Rattle.std.proofs.lemmas.List.Elements.{All-from_recursion, All-take, All-drop}
use Rattle.am_types.specs.declared.Op.{Op}
use Rattle.am_types.specs.declared.Change.{Change}
use Rattle.am_types.specs.Bytes.{IsBytes, IsHash}
use Rattle.am_types.specs.Order.{bytes_cmp, hash_cmp}
use Rattle.am_types.specs.Fine.{FineOp, Fine, pred_count}
use Rattle.am_colmeta.specs.Metadata.{listing, body}
use Rattle.am_opcols.specs.Others.{others}
use Rattle.am_opcols.specs.Writing.{written_columns}
use Rattle.am_change.specs.Contents.{contents}
use Rattle.am_change.specs.Fronts.{Front, front_bytes, front}
use Rattle.am_change.specs.Building.{hash_with, hashes_in, front_of, change_with, IsFrontFine}
use Rattle.am_change.specs.declared.front.FrontRef.{FrontRef}
use Rattle.am_opcols.specs.Chains.{Chain, ChainFrom}
use Rattle.am_opcols.proofs.Chains.{chain_ascends, ascends_chain}
use Rattle.am_change.proofs.ContentsLaws.{contents-front}

-- ---- hashes one after another

pub chain_first : (count : ℕ) (bytes first more : List ℕ) → 1 ≤ count → first ≡ take 32 bytes → more ≡ drop 32 bytes → ChainFrom hash_cmp (hash_with first) (hashes_in (count - 1) more) ↔ Chain hash_cmp (hashes_in count bytes)
chain_first zero bytes first more h f m = absurd (omega arith)
chain_first (suc n) bytes first more h f m =
    let s : suc n - 1 ≡ n = omega arith in
    let P : ℕ → List ℕ → List ℕ → Type 0 = λ k a b. ChainFrom hash_cmp (hash_with a) (hashes_in k b) in (
      λ c. subst (λ k. P k (take 32 bytes) (drop 32 bytes)) s (subst (λ a. P (suc n - 1) a (drop 32 bytes)) f (subst (λ b. P (suc n - 1) first b) m c)),
      λ c. subst (λ b. P (suc n - 1) first b) (sym m) (subst (λ a. P (suc n - 1) a (drop 32 bytes)) (sym f) (subst (λ k. P k (take 32 bytes) (drop 32 bytes)) (sym s) c)),
    )

pub chain_next : (before : List ℕ) (left : ℕ) (rest hash more : List ℕ) → 1 ≤ left → hash ≡ take 32 rest → more ≡ drop 32 rest
    → ((bytes_cmp before hash ≡ Less) × ChainFrom hash_cmp (hash_with hash) (hashes_in (left - 1) more)) ↔ ChainFrom hash_cmp (hash_with before) (hashes_in left rest)
chain_next before zero rest hash more h f m = absurd (omega arith)
chain_next before (suc n) rest hash more h f m =
    let s : suc n - 1 ≡ n = omega arith in
    let P : ℕ → List ℕ → List ℕ → Type 0 = λ k a b. (bytes_cmp before a ≡ Less) × ChainFrom hash_cmp (hash_with a) (hashes_in k b) in (
      λ c. subst (λ k. P k (take 32 rest) (drop 32 rest)) s (subst (λ a. P (suc n - 1) a (drop 32 rest)) f (subst (λ b. P (suc n - 1) hash b) m c)),
      λ c. subst (λ b. P (suc n - 1) hash b) (sym m) (subst (λ a. P (suc n - 1) a (drop 32 rest)) (sym f) (subst (λ k. P k (take 32 rest) (drop 32 rest)) (sym s) c)),
    )

length-hashes : (count : ℕ) (bytes : List ℕ) → length (hashes_in count bytes) ≡ count
length-hashes zero bytes = refl
length-hashes (suc n) bytes = ap suc (length-hashes n (drop 32 bytes))

are_hashes : (count : ℕ) (bytes : List ℕ) → IsBytes bytes → length bytes ≡ 32 * count → AllByRecursion IsHash (hashes_in count bytes)
are_hashes zero bytes b l = tt
are_hashes (suc n) bytes b l = (
  record { length = length-take-le 32 bytes (omega arith); bytes = All-take (λ x. x < 2 ^ 8) 32 bytes b },
  are_hashes n (drop 32 bytes) (All-drop (λ x. x < 2 ^ 8) 32 bytes b) (omega (arith, length-drop 32 bytes)),
)

-- ---- fine parts

-- what Rust's types and the reader say of the parts beside the operations
pub record Parts (r : FrontRef) (extra : List ℕ) : Type 0 where
  pub size : length r.hashes.now ≡ 32 * r.count
  pub hash_bytes : IsBytes r.hashes.now
  pub message : IsUtf8 r.message.now
  pub actor : IsBytes r.actor.now
  pub some : 1 ≤ length r.actor.now
  pub short : length r.actor.now ≤ 1024
  pub extra_bytes : IsBytes extra

pub whole_fine : (r : FrontRef) (count : ℕ) (ops : List Op) (extra : List ℕ) → Parts r extra → IsFrontFine r count extra → length ops ≡ count → count ≤ 2 ^ 22 → pred_count ops ≤ 2 ^ 22 → All FineOp ops → Fine (change_with (front_of r) ops extra)
whole_fine r count ops extra p t n few few_preds each = record {
  deps = All-from_recursion IsHash (hashes_in r.count r.hashes.now) (are_hashes r.count r.hashes.now p.hash_bytes p.size);
  deps_ascend = chain_ascends hash_cmp (hashes_in r.count r.hashes.now) t.ascend;
  few_deps = omega (arith, t.few_deps, length-hashes r.count r.hashes.now);
  actor = record { some = p.some; few = p.short; are_bytes = p.actor };
  numbers = record { seq = t.seq; start = t.start; few_ops = omega (arith, n, few); max = omega (arith, n, t.start, t.end); time = t.time };
  message = p.message;
  extra = p.extra_bytes;
  short_extra = t.short_extra;
  few_preds = few_preds;
  ops = each;
}

pub whole_back : (r : FrontRef) (count : ℕ) (ops : List Op) (extra : List ℕ) → length ops ≡ count → Fine (change_with (front_of r) ops extra) → IsFrontFine r count extra
whole_back r count ops extra n w = record {
  few_deps = omega (arith, w.few_deps, length-hashes r.count r.hashes.now);
  ascend = ascends_chain hash_cmp (hashes_in r.count r.hashes.now) w.deps_ascend;
  short_extra = w.short_extra;
  seq = (w.numbers).seq;
  start = (w.numbers).start;
  end = omega (arith, n, (w.numbers).start, (w.numbers).max);
  time = (w.numbers).time;
}

-- ---- the contents

pub own_front : (f : Front) (columns : List (ℕ × List ℕ)) (ops : List Op) (extra : List ℕ) → listing columns ≡ f.listed → f.others ≡ others f.actor ops → columns ≡ written_columns f.actor ops → front (change_with f ops extra) ≡ f
own_front f columns ops extra l o c =
    ap (λ zs. record f { others = zs; listed = listing (written_columns f.actor ops) }) (sym o)
    ∙ ap (λ zs. record f { listed = zs }) (ap listing (sym c) ∙ l)

pub own_contents : (bytes rest : List ℕ) (f : Front) (columns : List (ℕ × List ℕ)) (ops : List Op) (extra : List ℕ) → bytes ≡ front_bytes f ++ rest → rest ≡ body columns ++ extra
    → listing columns ≡ f.listed → f.others ≡ others f.actor ops → columns ≡ written_columns f.actor ops → bytes ≡ contents (change_with f ops extra)
own_contents bytes rest f columns ops extra e r l o c =
    let d = change_with f ops extra in
    e ∙ ap (λ g. front_bytes g ++ rest) (sym (own_front f columns ops extra l o c))
    ∙ ap (λ z. front_bytes (front d) ++ z) (r ∙ ap (λ cs. body cs ++ extra) c)
    ∙ sym (contents-front d)

-- and a fine change with these parts has canonical ones
pub canonical_as : (f : Front) (columns : List (ℕ × List ℕ)) (ops : List Op) (c : Change) → f ≡ front c → ops ≡ c.ops → columns ≡ written_columns c.actor c.ops → (f.others ≡ others f.actor ops) × (columns ≡ written_columns f.actor ops)
canonical_as f columns ops c e o k =
    let actor : f.actor ≡ c.actor = ap (λ g. g.actor) e in (
      ap (λ g. g.others) e ∙ ap (λ x. others x c.ops) (sym actor) ∙ ap (others f.actor) (sym o),
      k ∙ ap (λ x. written_columns x c.ops) (sym actor) ∙ ap (written_columns f.actor) (sym o),
    )
