-- The contents of a fine change: their front, and what tells the change.
use Rattle.std.proofs.Common.{◌≡◌, ℕ, ◌<◌, ◌≤◌, ◌^◌, List, [], ◌∷◌, ◌++◌, length, refl, sym, ap, ◌∙◌, subst, arith, rules, append_assoc, inl, inr}
use Rattle.std.specs.Prelude.{ℤ, pos, neg_ℤ, ◌<ℤ◌, FitsSigned, Ok, IsBitSet, Contains}
use Rattle.std.specs.Int.{w64}
use Rattle.std.specs.List.{flat_map, AllByRecursion}
use Rattle.std.proofs.lemmas.Int.{ints}
use Rattle.std.proofs.lemmas.List.{length-append}
use Rattle.std.proofs.lemmas.List.Elements.{recursion_from_All}
use Rattle.am_leb.specs.Leb.{uleb, leb}
use Rattle.am_leb.proofs.Laws.{length_uleb-pos}
use Rattle.am_types.specs.declared.Hash.{Hash}
use Rattle.am_types.specs.declared.Op.{Op}
use Rattle.am_types.specs.declared.Change.{Change}
use Rattle.am_types.specs.Bytes.{IsHash}
use Rattle.am_types.specs.Fine.{Fine}
use Rattle.am_colmeta.specs.Metadata.{metadata, listing, body, total, not_empty, IsPair, AreListed}
use Rattle.am_colmeta.specs.Actors.{prefixed, actors_bytes, IsPrefixed, AreActors}
use Rattle.am_colmeta.specs.Judgement.{AreCompressed, Judges}
use Rattle.am_colmeta.specs.Reading.{cut}
use Rattle.am_colmeta.proofs.Collecting.{Ascend-not_empty}
use Rattle.am_colmeta.proofs.Cutting.{cut-whole, total-listing}
use Rattle.am_fields.specs.Columns.{spellings}
use Rattle.am_fields.proofs.Lists.{same_parts}
use Rattle.am_opcols.specs.Columns.{op_columns, op_specifications, SpellsOps}
use Rattle.am_opcols.specs.Others.{others}
use Rattle.am_opcols.specs.Writing.{written_columns}
use Rattle.am_opcols.proofs.OneReading.{ops-same}
use Rattle.am_opcols.proofs.WrittenOps.{ops_spelled, ascending}
use Rattle.am_change.specs.Contents.{hashes_bytes, contents}
use Rattle.am_change.specs.Fronts.{Front, front_bytes, front, Has32, IsFront}
use Rattle.am_change.specs.Building.{change_with}
use Rattle.am_change.proofs.FrontLaws.{front-splits}

regroup : (a b c d e f g h i j : List ℕ) → (a ++ (b ++ (c ++ (d ++ (e ++ f))))) ++ (g ++ (h ++ (i ++ j))) ≡ (a ++ (b ++ (c ++ (d ++ (e ++ (f ++ (g ++ h))))))) ++ (i ++ j)
regroup a b c d e f g h i j = simp append_assoc

pub contents-front : (c : Change) → contents c ≡ front_bytes (front c) ++ (body (written_columns c.actor c.ops) ++ c.extra)
unfolding contents
contents-front c =
    regroup (hashes_bytes c.deps) (prefixed c.actor) (uleb c.seq) (uleb c.start) (leb c.time) (prefixed c.message) (actors_bytes (others c.actor c.ops)) (metadata (listing (written_columns c.actor c.ops))) (body (written_columns c.actor c.ops)) c.extra

-- parts of bytes that are short are short

record Short (f : Front) (rest : List ℕ) : Type 0 where
  message : length f.message < 2 ^ 64
  others : length (actors_bytes f.others) < 2 ^ 64
  behind : length rest < 2 ^ 64

short_parts : (a b c d e f g h r : List ℕ) (n : ℕ) → length ((a ++ (b ++ (c ++ (d ++ (e ++ (f ++ (g ++ h))))))) ++ r) < n → (length f < n) × (length g < n) × (length r < n)
short_parts a b c d e f g h r n s =
    let l1 = length-append a (b ++ (c ++ (d ++ (e ++ (f ++ (g ++ h)))))) in
    let l2 = length-append b (c ++ (d ++ (e ++ (f ++ (g ++ h))))) in
    let l3 = length-append c (d ++ (e ++ (f ++ (g ++ h)))) in
    let l4 = length-append d (e ++ (f ++ (g ++ h))) in
    let l5 = length-append e (f ++ (g ++ h)) in
    let l6 = length-append f (g ++ h) in
    let l7 = length-append g h in
    let l8 = length-append (a ++ (b ++ (c ++ (d ++ (e ++ (f ++ (g ++ h))))))) r in
    (omega arith, omega arith, omega arith)

short : (f : Front) (rest : List ℕ) → length (front_bytes f ++ rest) < 2 ^ 64 → Short f rest
short f rest s =
    let p = short_parts (hashes_bytes f.deps) (prefixed f.actor) (uleb f.seq) (uleb f.start) (leb f.time) (prefixed f.message) (actors_bytes f.others) (metadata f.listed) rest (2 ^ 64) s in
    record { message = (let l = length-append (uleb (length f.message)) f.message in let h = p.0 in omega arith); others = p.1; behind = p.2 }

all_short : (xs : List (List ℕ)) (n : ℕ) → length (flat_map prefixed xs) ≤ n → n < 2 ^ 64 → AllByRecursion IsPrefixed xs × (length xs ≤ n)
all_short [] n h s = (tt, omega arith)
all_short (x ∷ xs) n h s =
    let l = length-append (prefixed x) (flat_map prefixed xs) in
    let m = length-append (uleb (length x)) x in
    let one = length_uleb-pos (length x) in
    let fewer : length (flat_map prefixed xs) ≤ length (flat_map prefixed xs) = omega arith in
    let more = all_short xs (length (flat_map prefixed xs)) fewer (omega arith) in
    let count = more.1 in
    ((omega arith, more.0), omega arith)

actors_short : (xs : List (List ℕ)) → length (actors_bytes xs) < 2 ^ 64 → AreActors xs
actors_short xs s =
    let l = length-append (uleb (length xs)) (flat_map prefixed xs) in
    let each = all_short xs (length (flat_map prefixed xs)) (omega arith) (omega arith) in
    let count = each.1 in
    (omega arith, each.0)

-- columns

each_column : (P : ℕ → Type 0) (cs : List (ℕ × List ℕ)) → AllByRecursion (λ c. P c.0) cs → AllByRecursion (λ pair. P pair.0) (listing (not_empty cs))
each_column P [] all = tt
each_column P ((s, []) ∷ cs) all = each_column P cs all.1
each_column P ((s, (b ∷ bytes)) ∷ cs) all = (all.0, each_column P cs all.1)

none_compressed : (listed : List (ℕ × ℕ)) → AllByRecursion (λ pair. IsBitSet pair.0 3 → ⊥) listed → AreCompressed listed → ⊥
none_compressed [] all h = h
none_compressed (pair ∷ listed) all (inl h) = all.0 h
none_compressed (pair ∷ listed) all (inr h) = none_compressed listed all.1 h

pairs_short : (cs : List (ℕ × List ℕ)) → AllByRecursion (λ c. c.0 < 2 ^ 64) cs → length (body (not_empty cs)) < 2 ^ 64 → AllByRecursion IsPair (listing (not_empty cs)) × (length (listing (not_empty cs)) ≤ length cs)
pairs_short [] all h = (tt, omega arith)
pairs_short ((s, []) ∷ cs) all h = let more = pairs_short cs all.1 h in (more.0, let count = more.1 in omega arith)
pairs_short ((s, (b ∷ bytes)) ∷ cs) all h =
    let l = length-append (b ∷ bytes) (body (not_empty cs)) in
    let more = pairs_short cs all.1 (omega arith) in
    (((all.0, omega arith), more.0), let count = more.1 in omega arith)

plain : (actors : List (List ℕ)) (ops : List Op) → AllByRecursion (λ c. IsBitSet c.0 3 → ⊥) (spellings actors (op_columns ops))
plain actors ops =
    let no : (n : ℕ) → n ≡ 0 → (n ≡ 0 → ⊥) → ⊥ = λ n e f. f e in
    (no 0 refl, (no 0 refl, (no 0 refl, (no 0 refl, (no 0 refl, (no 0 refl, (no 0 refl, (no 0 refl, (no 0 refl, (no 0 refl, (no 0 refl, (no 0 refl, (no 0 refl, (no 0 refl, tt))))))))))))))

are_known : (actors : List (List ℕ)) (ops : List Op) → AllByRecursion (λ c. Contains op_specifications c.0) (spellings actors (op_columns ops))
are_known actors ops = (
  (0, omega arith, refl),
  (
    (1, omega arith, refl),
    (
      (2, omega arith, refl),
      (
        (3, omega arith, refl),
        (
          (4, omega arith, refl),
          (
            (5, omega arith, refl),
            (
              (6, omega arith, refl),
              ((7, omega arith, refl), ((8, omega arith, refl), ((9, omega arith, refl), ((10, omega arith, refl), ((11, omega arith, refl), ((12, omega arith, refl), ((13, omega arith, refl), tt))))))),
            ),
          ),
        ),
      ),
    ),
  ),
)

low : (actors : List (List ℕ)) (ops : List Op) → AllByRecursion (λ c. c.0 < 2 ^ 64) (spellings actors (op_columns ops))
low actors ops = (omega arith, (omega arith, (omega arith, (omega arith, (omega arith, (omega arith, (omega arith, (omega arith, (omega arith, (omega arith, (omega arith, (omega arith, (omega arith, (omega arith, tt))))))))))))))

pub not_compressed : (author : List ℕ) (ops : List Op) → AreCompressed (listing (written_columns author ops)) → ⊥
not_compressed author ops = none_compressed (listing (written_columns author ops)) (each_column (λ s. IsBitSet s 3 → ⊥) (spellings (author ∷ others author ops) (op_columns ops)) (plain (author ∷ others author ops) ops))

pub columns_judged : (author : List ℕ) (ops : List Op) → Judges (listing (written_columns author ops)) (body (written_columns author ops)) op_specifications (Ok (written_columns author ops))
columns_judged author ops =
    let actors = author ∷ others author ops in
    let all = spellings actors (op_columns ops) in
    (not_compressed author ops, Ascend-not_empty all (ascending actors ops), each_column (λ s. Contains op_specifications s) all (are_known actors ops), record { listed_are = refl; bytes_are = refl })

pub columns_listed : (author : List ℕ) (ops : List Op) → length (body (written_columns author ops)) < 2 ^ 64 → AreListed (listing (written_columns author ops))
columns_listed author ops h =
    let actors = author ∷ others author ops in
    let w = pairs_short (spellings actors (op_columns ops)) (low actors ops) h in
    let count : length (listing (written_columns author ops)) ≤ 14 = w.1 in
    (omega arith, w.0)

-- the front of a fine change

hashes_sized : (hs : List Hash) → AllByRecursion IsHash hs → AllByRecursion Has32 hs
hashes_sized [] all = tt
hashes_sized (h ∷ hs) all = ((all.0).length, hashes_sized hs all.1)

pub deps_sized : (c : Change) → Fine c → AllByRecursion Has32 c.deps
deps_sized c fine = hashes_sized c.deps (recursion_from_All IsHash c.deps fine.deps)

time_fits : (z : ℤ) → neg_ℤ (pos (2 ^ 62)) <ℤ z → z <ℤ pos (2 ^ 62) → FitsSigned w64 z
time_fits z a b = search (arith, ints, rules)

pub short_behind : (c : Change) → length (contents c) < 2 ^ 64 → length (body (written_columns c.actor c.ops)) < 2 ^ 64
short_behind c s =
    let size : length (front_bytes (front c) ++ (body (written_columns c.actor c.ops) ++ c.extra)) < 2 ^ 64 = subst (λ (b : List ℕ). length b < 2 ^ 64) (contents-front c) s in
    let parts = short (front c) (body (written_columns c.actor c.ops) ++ c.extra) size in
    let l = length-append (body (written_columns c.actor c.ops)) c.extra in
    let r = parts.behind in
    omega arith

pub is_front : (c : Change) → Fine c → length (contents c) < 2 ^ 64 → IsFront (front c)
is_front c fine s =
    let size : length (front_bytes (front c) ++ (body (written_columns c.actor c.ops) ++ c.extra)) < 2 ^ 64 = subst (λ (b : List ℕ). length b < 2 ^ 64) (contents-front c) s in
    let parts = short (front c) (body (written_columns c.actor c.ops) ++ c.extra) size in
    let few = fine.few_deps in
    let actor = (fine.actor).few in
    let seq = (fine.numbers).seq.1 in
    let max = (fine.numbers).max in
    let time = (fine.numbers).time in
    record {
      hashes = deps_sized c fine;
      deps = omega arith;
      actor = omega arith;
      seq = omega arith;
      start = omega arith;
      time = time_fits c.time time.0 time.1;
      message = parts.message;
      others = actors_short (others c.actor c.ops) parts.others;
      listed = columns_listed c.actor c.ops (short_behind c s);
    }

pub own_ops : (c : Change) → Fine c → length (contents c) < 2 ^ 64 → SpellsOps (c.actor ∷ others c.actor c.ops) (written_columns c.actor c.ops) c.ops
own_ops c fine s = ops_spelled c.actor c.ops fine.ops (fine.numbers).few_ops fine.few_preds (short_behind c s)

-- contents tell the change

pub cut_behind : (xs ys : List (ℕ × List ℕ)) (r s : List ℕ) → listing xs ≡ listing ys → body xs ++ r ≡ body ys ++ s → (xs ≡ ys) × (r ≡ s)
cut_behind xs ys r s l e =
    let lengths : length (body xs) ≡ length (body ys) = sym (total-listing xs) ∙ ap total l ∙ total-listing ys in
    let parts = same_parts (body xs) (body ys) r s lengths e in
    (sym (cut-whole xs) ∙ ap (λ b. cut (listing xs) b) parts.0 ∙ ap (λ p. cut p (body ys)) l ∙ cut-whole ys, parts.1)

pub contents-same : (c d : Change) → Fine c → Fine d → length (contents c) < 2 ^ 64 → contents c ≡ contents d → c ≡ d
contents-same c d good fine s e =
    let parts = front-splits (front c) (front d) (body (written_columns c.actor c.ops) ++ c.extra) (body (written_columns d.actor d.ops) ++ d.extra) (deps_sized c good) (deps_sized d fine) (sym (contents-front c) ∙ e ∙ contents-front d) in
    let same = cut_behind (written_columns c.actor c.ops) (written_columns d.actor d.ops) c.extra d.extra (ap (λ f. f.listed) parts.0) parts.1 in
    let size : length (contents d) < 2 ^ 64 = subst (λ (b : List ℕ). length b < 2 ^ 64) e s in
    let P : List ℕ → List (List ℕ) → List (ℕ × List ℕ) → Type 0 = λ a os cs. SpellsOps (a ∷ os) cs d.ops in
    let theirs = own_ops d fine size in
    let actor : d.actor ≡ c.actor = sym (ap (λ f. f.actor) parts.0) in
    let named : others d.actor d.ops ≡ others c.actor c.ops = sym (ap (λ f. f.others) parts.0) in
    let here : SpellsOps (c.actor ∷ others c.actor c.ops) (written_columns c.actor c.ops) d.ops =
    subst (P c.actor (others c.actor c.ops)) (sym same.0) (subst (λ os. P c.actor os (written_columns d.actor d.ops)) named (subst (λ a. P a (others d.actor d.ops) (written_columns d.actor d.ops)) actor theirs)) in
    let ops = ops-same (c.actor ∷ others c.actor c.ops) (written_columns c.actor c.ops) c.ops d.ops (own_ops c good s) here in
    ap (λ f. change_with f c.ops c.extra) parts.0 ∙ ap (λ o. change_with (front d) o c.extra) ops ∙ ap (λ x. change_with (front d) d.ops x) same.1
