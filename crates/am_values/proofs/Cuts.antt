-- Values cut out of raw bytes by their numbers: one at a time, many at once, and what is spelled is cut out again.
use Rattle.std.proofs.Common.{◌≡◌, ℕ, suc, zero, ◌+◌, ◌*◌, ◌/◌, ◌%◌, ◌-◌, ◌≤◌, List, [], ◌∷◌, ◌++◌, length, take, drop, map, Option, Some, None, ◌↔◌, refl, sym, ap, ◌∙◌, subst, arith, length-append}
use Rattle.std.specs.Prelude.{replicate}
use Rattle.std.specs.Option.{option_map}
use Rattle.std.specs.List.{flat_map}
use Rattle.std.proofs.lemmas.List.{take_at, drop_at, length-drop, length-take-le, take-append-drop, drop-drop}
use Rattle.am_types.specs.declared.RawValue.{RawValue}
use Rattle.am_types.specs.Values.{Good}
use Rattle.am_runs.specs.Typed.{JoinsUnsigned}
use Rattle.am_values.specs.Columns.{metadata, raw_of, AreGood, JoinsValues}
use Rattle.am_values.specs.Cutting.{values_from, width, AreCut, IsCut}

pub length-values : (meta : List (Option ℕ)) (raw : List ℕ) → length (values_from meta raw) ≡ length meta
length-values [] raw = refl
length-values (None ∷ meta) raw = ap suc (length-values meta raw)
length-values (Some m ∷ meta) raw = ap suc (length-values meta (drop (m / 16) raw))

pub cut_one : (x : Option ℕ) (list : List (Option ℕ)) (raw rest : List ℕ) → IsCut x raw → rest ≡ drop (width x) raw → AreCut list rest ↔ AreCut (x ∷ list) raw
cut_one None list raw rest c e = (
  λ h. (omega (arith, h.0, ap length e), (tt, subst (λ r. AreGood (values_from list r)) e h.1)),
  λ h. (omega (arith, h.0, ap length e), subst (λ r. AreGood (values_from list r)) (sym e) h.1.1),
)
cut_one (Some m) list raw rest c e = (
  λ h. (omega (arith, h.0, ap length e, length-drop (m / 16) raw, c.0), (c.1, subst (λ r. AreGood (values_from list r)) e h.1)),
  λ h. (omega (arith, h.0, ap length e, length-drop (m / 16) raw, c.0), subst (λ r. AreGood (values_from list r)) (sym e) h.1.1),
)

pub first_cut : (x : Option ℕ) (list : List (Option ℕ)) (raw : List ℕ) → AreCut (x ∷ list) raw → IsCut x raw
first_cut None list raw h = tt
first_cut (Some m) list raw h = (omega (arith, h.0), h.1.0)

first_is : (x : Option ℕ) (k : ℕ) (list : List (Option ℕ)) → 1 ≤ k → take k list ≡ replicate k x → (l : List (Option ℕ)) × (list ≡ x ∷ l) × (take (k - 1) l ≡ replicate (k - 1) x)
first_is x zero list h e = absurd (omega arith)
first_is x (suc k) [] h e = absurd (cc)
first_is x (suc k) (y ∷ l) h e =
    let q : y ≡ x = cc in
    let t : take k l ≡ replicate k x = cc in
    (l, ap (λ z. z ∷ l) q, subst (λ n. take n l ≡ replicate n x) (let s : k ≡ suc k - 1 = omega arith in s) t)

-- ---- what the cursor shows is spelled

pub metadata-value : (m : ℕ) (raw : List ℕ) → m / 16 ≤ length raw → metadata (record { kind = m % 16; raw = take (m / 16) raw }) ≡ m
metadata-value m raw h = omega (arith, length-take-le (m / 16) raw h)

metadata-values : (meta : List (Option ℕ)) (raw : List ℕ) → AreCut meta raw → map (option_map metadata) (values_from meta raw) ≡ meta
metadata-values [] raw h = refl
metadata-values (None ∷ meta) raw h = ap (λ l. None ∷ l) (metadata-values meta raw ((cut_one None meta raw raw tt refl).1 h))
metadata-values (Some m ∷ meta) raw h =
    let c = first_cut (Some m) meta raw h in
    ap (λ n. Some n ∷ map (option_map metadata) (values_from meta (drop (m / 16) raw))) (metadata-value m raw c.0)
    ∙ ap (λ l. Some m ∷ l) (metadata-values meta (drop (m / 16) raw) ((cut_one (Some m) meta raw (drop (m / 16) raw) c refl).1 h))

no_bytes : (raw : List ℕ) → 0 ≡ length raw → raw ≡ []
no_bytes [] e = refl
no_bytes (b ∷ raw) e = absurd (omega arith)

raw-values : (meta : List (Option ℕ)) (raw : List ℕ) → AreCut meta raw → raw ≡ flat_map raw_of (values_from meta raw)
raw-values [] raw h = no_bytes raw h.0
raw-values (None ∷ meta) raw h = raw-values meta raw ((cut_one None meta raw raw tt refl).1 h)
raw-values (Some m ∷ meta) raw h =
    let c = first_cut (Some m) meta raw h in
    sym (take-append-drop (m / 16) raw) ∙ ap (λ l. take (m / 16) raw ++ l) (raw-values meta (drop (m / 16) raw) ((cut_one (Some m) meta raw (drop (m / 16) raw) c refl).1 h))

pub joins_values : (bytes : List ℕ) (meta : List (Option ℕ)) (raw : List ℕ) → JoinsUnsigned bytes meta → AreCut meta raw → JoinsValues bytes raw (values_from meta raw)
joins_values bytes meta raw p h = record { numbers_are = subst (JoinsUnsigned bytes) (sym (metadata-values meta raw h)) p; raw_are = raw-values meta raw h; good = h.1 }

-- ---- and what is spelled is shown

pub split : (v : RawValue) → v.kind ≤ 15 → (metadata v % 16 ≡ v.kind) × (metadata v / 16 ≡ length v.raw)
split v h = (omega arith, omega arith)

pub value_back : (v : RawValue) (more : List ℕ) → v.kind ≤ 15 → ◌≡◌ {A = RawValue} (record { kind = metadata v % 16; raw = take (metadata v / 16) (v.raw ++ more) }) v
value_back v more h =
    let s = split v h in
    ap (λ k. record { kind = k; raw = take (metadata v / 16) (v.raw ++ more) }) s.0
    ∙ ap (λ r. record { kind = v.kind; raw = r }) (take_at v.raw more (metadata v / 16) (sym s.1))

pub cut_spelled : (values : List (Option RawValue)) → AreGood values → AreCut (map (option_map metadata) values) (flat_map raw_of values)
cut_spelled [] h = (refl, tt)
cut_spelled (None ∷ values) h = (cut_one None (map (option_map metadata) values) (flat_map raw_of values) (flat_map raw_of values) tt refl).0 (cut_spelled values h.1)
cut_spelled (Some v ∷ values) h =
    let more = flat_map raw_of values in
    let s = split v h.0.kind in
    let c : IsCut (Some (metadata v)) (v.raw ++ more) = (omega (arith, s.1, length-append v.raw more), subst Good (sym (value_back v more h.0.kind)) h.0) in
    (cut_one (Some (metadata v)) (map (option_map metadata) values) (v.raw ++ more) more c (sym (drop_at v.raw more (metadata v / 16) (sym s.1)))).0 (cut_spelled values h.1)

-- ---- for `skip`

values_one : (x : Option ℕ) (list : List (Option ℕ)) (raw rest : List ℕ) → rest ≡ drop (width x) raw → drop 1 (values_from (x ∷ list) raw) ≡ values_from list rest
values_one None list raw rest e = ap (values_from list) (sym e)
values_one (Some m) list raw rest e = ap (values_from list) (sym e)

width_within : (x : Option ℕ) (raw : List ℕ) → IsCut x raw → width x ≤ length raw
width_within None raw h = omega arith
width_within (Some m) raw h = h.0

-- past j alike, each of the same width
pub past_many : (j k : ℕ) (x : Option ℕ) (list : List (Option ℕ)) (raw : List ℕ) → j ≤ k → take k list ≡ replicate k x → AreCut list raw
    → (j * width x ≤ length raw) × AreCut (drop j list) (drop (j * width x) raw) × (drop j (values_from list raw) ≡ values_from (drop j list) (drop (j * width x) raw))
past_many zero k x list raw h e c =
    let none : raw ≡ drop (0 * width x) raw = ap (λ n. drop n raw) (let z : 0 ≡ 0 * width x = omega arith in z) in
    (omega arith, subst (AreCut list) none c, ap (values_from list) none)
past_many (suc j) k x list raw h e c =
    let w = first_is x k list (omega arith) e in
    let whole : AreCut (x ∷ w.0) raw = subst (λ l. AreCut l raw) w.1 c in
    let here : IsCut x raw = first_cut x w.0 raw whole in
    let behind : List ℕ = drop (width x) raw in
    let more = past_many j (k - 1) x w.0 behind (omega arith) w.2 ((cut_one x w.0 raw behind here refl).1 whole) in
    let size : width x + j * width x ≡ suc j * width x = omega arith in
    let all : drop (j * width x) behind ≡ drop (suc j * width x) raw = drop-drop (j * width x) (width x) raw ∙ ap (λ n. drop n raw) size in
    let fits : suc j * width x ≤ length raw = omega (arith, size, more.0, width_within x raw here, length-drop (width x) raw) in
    let values : drop (suc j) (values_from (x ∷ w.0) raw) ≡ values_from (drop j w.0) (drop (suc j * width x) raw) =
    ap (λ m. drop m (values_from (x ∷ w.0) raw)) (let q : suc j ≡ 1 + j = omega arith in q) ∙ sym (drop-drop j 1 (values_from (x ∷ w.0) raw)) ∙ ap (drop j) (values_one x w.0 raw behind refl)
    ∙ more.2 ∙ ap (values_from (drop j w.0)) all in (
      fits,
      subst (λ l. AreCut (drop (suc j) l) (drop (suc j * width x) raw)) (sym w.1) (subst (AreCut (drop j w.0)) all more.1),
      subst (λ l. drop (suc j) (values_from l raw) ≡ values_from (drop (suc j) l) (drop (suc j * width x) raw)) (sym w.1) values,
    )

pub skips : (j k n all : ℕ) (x : Option ℕ) (list first : List (Option ℕ)) (raw rest start : List ℕ) → j ≤ k → j ≤ n → take k list ≡ replicate k x → rest ≡ drop (j * width x) raw → AreCut list raw → drop n (values_from list raw) ≡ drop all (values_from first start)
    → AreCut (drop j list) rest × (drop (n - j) (values_from (drop j list) rest) ≡ drop all (values_from first start))
skips j k n all x list first raw rest start h i e r c d =
    let w = past_many j k x list raw h e c in (
      subst (AreCut (drop j list)) (sym r) w.1,
      ap (λ l. drop (n - j) (values_from (drop j list) l)) r ∙ ap (drop (n - j)) (sym w.2) ∙ drop-drop (n - j) j (values_from list raw) ∙ ap (λ m. drop m (values_from list raw)) (let q : j + (n - j) ≡ n = omega arith in q) ∙ d,
    )
