-- What a cursor of numbers holds, and how it goes on.
use Rattle.std.proofs.Common.{◌≡◌, ℕ, suc, zero, ◌+◌, ◌*◌, ◌%◌, ◌-◌, ◌<◌, ◌≤◌, ◌^◌, List, get_or, [], ◌∷◌, ◌++◌, length, take, drop, map, Option, Some, None, Result, Ok, Err, ℤ, pos, negsuc, refl, sym, ap, ◌∙◌, subst, arith, zero-add}
use Rattle.std.specs.Prelude.{replicate}
use Rattle.std.specs.Option.{option_map}
use Rattle.std.proofs.lemmas.List.{length-drop, take_all, append_assoc, replicate-append-replicate}
use Rattle.am_leb.specs.declared.LebFault.{LebFault}
use Rattle.am_leb.specs.Leb.{unsigned_value, signed_value}
use Rattle.am_leb.specs.Reading.{first_unsigned, first_signed, low_value}
use Rattle.am_leb.proofs.OneByte.{first_unsigned-low, first_signed-low}
use Rattle.am_leb.proofs.Answering.{first_signed-value}
use Rattle.am_runs.specs.declared.place.Kind.{Kind}
use Rattle.am_runs.specs.declared.place.Kind.TheVariants as kinds
use Rattle.am_runs.specs.Items.{length_read, unsigned_end, signed_end}
use Rattle.am_runs.specs.Typed.{AllItems}
use Rattle.am_runs.specs.Walking.{Place, open_run, open_by, open_at, open_nulls, open_repeat, within_opened, entry_by, literal_step, step_at, step, listed, entries, holds_behind, HasEntries, Takes}
use Rattle.am_runs.specs.Counters.{in_literal, entries_from, counted, IsCounted}
use Rattle.am_runs.proofs.Entries.{entries-more, HasEntries-more, never_ends}
use Rattle.am_runs.proofs.Jumping.{step-opened, from_same, entries_same}
use Rattle.am_runs.proofs.Taken.{take_repeat, take_nulls, entries-taken, AllItems-behind, held_first, held_none, length-held, map_taken}

-- ---- at most as many are left in the run as in all

count_literal : (n m : ℕ) (holds : Place → Type 0) → ((p : Place) → holds p → p.count ≤ n) → (rest : List ℕ) (o : Option ℕ) → holds_behind holds (literal_step m rest o) → suc m ≤ suc n
count_literal n m holds f rest None h = absurd h
count_literal n m holds f rest (Some len) h = let q : m ≤ n = f (in_literal m (drop len rest)) h in omega arith

count_next : (end : List ℕ → Option ℕ) (n m : ℕ) (holds : Place → Type 0) → ((p : Place) → holds p → p.count ≤ n) → (k : Kind) (item rest : List ℕ) → holds_behind holds (entry_by end k m item rest) → suc m ≤ suc n
count_next end n m holds f kinds.Repeat item rest h = let q : m ≤ n = f (record { kind = kinds.Repeat; count = m; item = item; rest = rest }) h in omega arith
count_next end n m holds f kinds.Nulls item rest h = let q : m ≤ n = f (record { kind = kinds.Nulls; count = m; item = item; rest = rest }) h in omega arith
count_next end n m holds f kinds.Literal item rest h = count_literal n m holds f rest (end rest) h

count_at : (end : List ℕ → Option ℕ) (n : ℕ) (holds : Place → Type 0) → ((p : Place) → holds p → p.count ≤ n) → (m : ℕ) (p : Place) → holds_behind holds (step_at end m p) → m ≤ suc n
count_at end n holds f zero p h = omega arith
count_at end n holds f (suc m) p h = count_next end n m holds f p.kind p.item p.rest h

pub count-le : (end : List ℕ → Option ℕ) (n : ℕ) (p : Place) → HasEntries end n p → p.count ≤ n
unfolding HasEntries
count-le end zero p h = omega (arith, h.0)
count-le end (suc n) p h = count_at end n (HasEntries end n) (count-le end n) p.count p h

-- ---- other places with the same entries

between-step : (end : List ℕ → Option ℕ) (p : Place) → p.count ≡ 0 → step end p ≡ step end (in_literal 0 p.rest)
between-step end p e = ap (λ n. step_at end n p) e

between-holds : (end : List ℕ → Option ℕ) (n : ℕ) (p : Place) → p.count ≡ 0 → HasEntries end n p → HasEntries end n (in_literal 0 p.rest)
unfolding HasEntries
between-holds end zero p e h = (refl, h.1)
between-holds end (suc n) p e h = subst (holds_behind (HasEntries end n)) (between-step end p e) h

between-entries : (end : List ℕ → Option ℕ) (n : ℕ) (p : Place) → p.count ≡ 0 → entries end n p ≡ entries end n (in_literal 0 p.rest)
unfolding entries
between-entries end zero p e = refl
between-entries end (suc n) p e = ap (listed (entries end n)) (between-step end p e)

-- the item of a place in a literal run doesn't matter
literal-step : (end : List ℕ → Option ℕ) (p : Place) → p.kind ≡ kinds.Literal → (n : ℕ) → step_at end n p ≡ step_at end n (in_literal p.count p.rest)
literal-step end p e zero = refl
literal-step end p e (suc n) = ap (λ k. entry_by end k n p.item p.rest) e

pub literal-holds : (end : List ℕ → Option ℕ) (n : ℕ) (p : Place) → p.kind ≡ kinds.Literal → HasEntries end n p → HasEntries end n (in_literal p.count p.rest)
unfolding HasEntries
literal-holds end zero p e h = h
literal-holds end (suc n) p e h = subst (holds_behind (HasEntries end n)) (literal-step end p e p.count) h

pub literal-entries : (end : List ℕ → Option ℕ) (n : ℕ) (p : Place) → p.kind ≡ kinds.Literal → entries end n p ≡ entries end n (in_literal p.count p.rest)
unfolding entries
literal-entries end zero p e = refl
literal-entries end (suc n) p e = ap (listed (entries end n)) (literal-step end p e p.count)

-- ---- a place in counters

-- the counters hold the entries from a place: copies of an entry, and what comes from the bytes
pub record Shows (end : List ℕ → Option ℕ) (n : ℕ) (p : Place) (copies literal left : ℕ) (entry : Option (List ℕ)) (rest : List ℕ) : Type 0 where
  pub held : IsCounted end copies literal left rest
  pub list : entries end n p ≡ replicate copies entry ++ entries_from end literal left rest

alone : (end : List ℕ → Option ℕ) (left : ℕ) (rest : List ℕ) → entries_from end 0 left rest ≡ entries end left (in_literal 0 rest)
alone end left rest = ap (λ m. entries end m (in_literal 0 rest)) (zero-add left)

behind_run : (end : List ℕ → Option ℕ) (n : ℕ) (p : Place) (x : Option (List ℕ)) → Takes end p x p.count (record { kind = p.kind; count = p.count - p.count; item = p.item; rest = p.rest }) → HasEntries end n p
    → HasEntries end (0 + (n - p.count)) (in_literal 0 p.rest) × (entries end n p ≡ replicate p.count x ++ entries_from end 0 (n - p.count) p.rest)
behind_run end n p x t h =
    let l = count-le end n p h in
    let to : Place = record { kind = p.kind; count = p.count - p.count; item = p.item; rest = p.rest } in
    let e : p.count - p.count ≡ 0 = omega arith in (
      subst (λ m. HasEntries end m (in_literal 0 p.rest)) (sym (zero-add (n - p.count))) (between-holds end (n - p.count) to e (t.0.goes n l h)),
      entries-taken end n p x p.count to t l h ∙ ap (λ list. replicate p.count x ++ list) (between-entries end (n - p.count) to e ∙ sym (alone end (n - p.count) p.rest)),
    )

shows_copies : (end : List ℕ → Option ℕ) (n : ℕ) (p : Place) (x : Option (List ℕ)) → Takes end p x p.count (record { kind = p.kind; count = p.count - p.count; item = p.item; rest = p.rest }) → HasEntries end n p → AllItems end (entries end n p) → n < 2 ^ 64
    → Shows end n p p.count 0 (n - p.count) x p.rest
shows_copies end n p x t h i f =
    let b = behind_run end n p x t h in
    let l = count-le end n p h in
    record {
      held = record {
        holds = b.0;
        items = AllItems-behind end p.count x (entries_from end 0 (n - p.count) p.rest) (subst (AllItems end) b.1 i);
        fits = omega arith;
      };
      list = b.1;
    }

pub shows_repeat : (end : List ℕ → Option ℕ) (n : ℕ) (p : Place) → p.kind ≡ kinds.Repeat → HasEntries end n p → AllItems end (entries end n p) → n < 2 ^ 64 → Shows end n p p.count 0 (n - p.count) (Some p.item) p.rest
shows_repeat end n p e = shows_copies end n p (Some p.item) (take_repeat end p p.count e (omega arith))

pub shows_nulls : (end : List ℕ → Option ℕ) (n : ℕ) (p : Place) → p.kind ≡ kinds.Nulls → HasEntries end n p → AllItems end (entries end n p) → n < 2 ^ 64 → Shows end n p p.count 0 (n - p.count) None p.rest
shows_nulls end n p e = shows_copies end n p None (take_nulls end p p.count e (omega arith))

pub shows_literal : (end : List ℕ → Option ℕ) (n : ℕ) (p : Place) (entry : Option (List ℕ)) → p.kind ≡ kinds.Literal → HasEntries end n p → AllItems end (entries end n p) → n < 2 ^ 64 → Shows end n p 0 p.count (n - p.count) entry p.rest
shows_literal end n p entry e h i f =
    let l = count-le end n p h in
    let q : n ≡ p.count + (n - p.count) = omega arith in
    let whole : entries end n p ≡ entries_from end p.count (n - p.count) p.rest = literal-entries end n p e ∙ ap (λ m. entries end m (in_literal p.count p.rest)) q in
    record {
      held = record {
        holds = subst (λ m. HasEntries end m (in_literal p.count p.rest)) q (literal-holds end n p e h);
        items = subst (AllItems end) whole i;
        fits = omega arith;
      };
      list = whole;
    }

-- ---- the next run

same_count : (p q : Place) → Some p ≡ Some q → 0 < q.count → 0 < p.count
same_count p q e h = let r : p ≡ q = cc in subst (λ (o : Place). 0 < o.count) (sym r) h

nulls_some : (bytes : List ℕ) (r : Result (ℕ × ℕ) LebFault) (p : Place) → Some p ≡ open_nulls bytes r → 0 < p.count
nulls_some bytes (Err d) p e = absurd (cc)
nulls_some bytes (Ok (zero, len)) p e = absurd (cc)
nulls_some bytes (Ok (suc k, len)) p e = same_count p (record { kind = kinds.Nulls; count = suc k; item = []; rest = drop len bytes }) e (omega arith)

repeat_some : (n : ℕ) (bytes : List ℕ) (o : Option ℕ) (p : Place) → Some p ≡ open_repeat (suc n) bytes o → 0 < p.count
repeat_some n bytes None p e = absurd (cc)
repeat_some n bytes (Some len) p e = same_count p (record { kind = kinds.Repeat; count = suc n; item = take len bytes; rest = drop len bytes }) e (omega arith)

at_some : (end : List ℕ → Option ℕ) (z : ℤ) (tail : List ℕ) (p : Place) → Some p ≡ open_at end z tail → 0 < p.count
at_some end (pos zero) tail p e = nulls_some tail (first_unsigned tail) p e
at_some end (pos (suc n)) tail p e = repeat_some n tail (end tail) p e
at_some end (negsuc n) tail p e = same_count p (in_literal (suc n) tail) e (omega arith)

by_some : (end : List ℕ → Option ℕ) (bytes : List ℕ) (r : Result (ℤ × ℕ) LebFault) (p : Place) → Some p ≡ open_by end bytes r → 0 < p.count
by_some end bytes (Err d) p e = absurd (cc)
by_some end bytes (Ok (z, len)) p e = at_some end z (drop len bytes) p e

pub run_some : (end : List ℕ → Option ℕ) (bytes : List ℕ) (p : Place) → Some p ≡ open_run end bytes → 0 < p.count
run_some end bytes p e = by_some end bytes (first_signed bytes) p e

-- the run that is opened has an entry at least
pub opened-holds : (end : List ℕ → Option ℕ) (left : ℕ) (rest : List ℕ) (p : Place) → 0 < left → Some p ≡ open_run end rest → IsCounted end 0 0 left rest
    → HasEntries end left p × AllItems end (entries end left p) × (entries_from end 0 left rest ≡ entries end left p) × (left < 2 ^ 64)
opened-holds end left rest p h e w =
    let c = run_some end rest p e in
    let s : step end (in_literal 0 rest) ≡ step end p = step-opened end (in_literal 0 rest) p refl c e in
    let same : entries_from end 0 left rest ≡ entries end left p = alone end left rest ∙ entries_same end left (in_literal 0 rest) p h s in (
      from_same end left (in_literal 0 rest) p h s (subst (λ m. HasEntries end m (in_literal 0 rest)) (zero-add left) w.holds),
      subst (AllItems end) same w.items,
      same,
      omega (arith, w.fits),
    )

pub run_there : (end : List ℕ → Option ℕ) (left : ℕ) (rest : List ℕ) → 0 < left → None ≡ open_run end rest → IsCounted end 0 0 left rest → ⊥
run_there end left rest h e w = never_ends end (0 + left) (in_literal 0 rest) (omega arith) (ap (within_opened end) e) w.holds

-- ---- the first item of a literal run

pub literal_steps : (end : List ℕ → Option ℕ) (n : ℕ) (rest : List ℕ) (len : ℕ) → 0 < n → Some len ≡ end rest → Some (Some (take len rest), in_literal (n - 1) (drop len rest)) ≡ step end (in_literal n rest)
literal_steps end zero rest len h e = absurd (omega arith)
literal_steps end (suc n) rest len h e =
    ap (λ m. Some (Some (take len rest), in_literal m (drop len rest))) (let q : suc n - 1 ≡ n = omega arith in q) ∙ ap (literal_step n rest) e

literal_stops : (end : List ℕ → Option ℕ) (n : ℕ) (rest : List ℕ) → 0 < n → None ≡ end rest → None ≡ step end (in_literal n rest)
literal_stops end zero rest h e = absurd (omega arith)
literal_stops end (suc n) rest h e = ap (literal_step n rest) e

pub literal_found : (end : List ℕ → Option ℕ) (copies literal left : ℕ) (rest : List ℕ) → 0 < literal → IsCounted end copies literal left rest → None ≡ end rest → ⊥
literal_found end copies literal left rest h w e = never_ends end (literal + left) (in_literal literal rest) (omega arith) (literal_stops end literal rest h e) w.holds

pub literal_bytes : (end : List ℕ → Option ℕ) (copies literal left : ℕ) (rest : List ℕ) → None ≡ end [] → 0 < literal → IsCounted end copies literal left rest → 0 < length rest
literal_bytes end copies literal left [] e h w = absurd (literal_found end copies literal left [] h w e)
literal_bytes end copies literal left (b ∷ rest) e h w = omega arith

-- behind the next item of a literal run
pub literal_next : {A : Type 0} (end : List ℕ → Option ℕ) (f : List ℕ → A) (copies literal left : ℕ) (rest : List ℕ) (len : ℕ) (v : A) → 0 < literal → IsCounted end copies literal left rest → Some len ≡ end rest → v ≡ f (take len rest)
    → IsCounted end copies (literal - 1) left (drop len rest) × (map (option_map f) (entries_from end literal left rest) ≡ Some v ∷ map (option_map f) (entries_from end (literal - 1) left (drop len rest)))
literal_next end f copies literal left rest len v h w e x =
    let next : Option (List ℕ) × Place = (Some (take len rest), in_literal (literal - 1) (drop len rest)) in
    let s = literal_steps end literal rest len h e in
    let q : literal + left - 1 ≡ literal - 1 + left = omega arith in
    let list : entries_from end literal left rest ≡ Some (take len rest) ∷ entries_from end (literal - 1) left (drop len rest) =
    entries-more end (literal + left) (in_literal literal rest) next (omega arith) s ∙ ap (λ m. Some (take len rest) ∷ entries end m next.1) q in
    let items = subst (AllItems end) list w.items in (
      record {
        holds = subst (λ m. HasEntries end m next.1) q (HasEntries-more end (literal + left) (in_literal literal rest) next (omega arith) s w.holds);
        items = items.1;
        fits = omega (arith, w.fits);
      },
      ap (map (option_map f)) list ∙ ap (λ y. Some y ∷ map (option_map f) (entries_from end (literal - 1) left (drop len rest))) (sym x),
    )

-- ---- copies

pub fewer : (end : List ℕ → Option ℕ) (copies copies' literal left : ℕ) (rest : List ℕ) → copies' ≤ copies → IsCounted end copies literal left rest → IsCounted end copies' literal left rest
fewer end copies copies' literal left rest le w = record {
  holds = w.holds;
  items = w.items;
  fits = omega (arith, w.fits);
}

-- the numbers behind the run that is opened
pub first_copy : {A : Type 0} (f : List ℕ → A) (list list' : List (Option (List ℕ))) (k : ℕ) (entry : Option (List ℕ)) (v : Option A) → list ≡ replicate k entry ++ list' → 0 < k → v ≡ option_map f entry → map (option_map f) list ≡ v ∷ counted f (k - 1) v list'
first_copy f list list' k entry v e h x =
    ap (map (option_map f)) e ∙ map_taken (option_map f) k entry list' ∙ ap (λ y. replicate k y ++ map (option_map f) list') (sym x) ∙ held_first k v (map (option_map f) list') h

-- what the counters show
pub counted_of : {A : Type 0} (f : List ℕ → A) (list list' : List (Option (List ℕ))) (copies : ℕ) (entry : Option (List ℕ)) (v : Option A) → list ≡ replicate copies entry ++ list' → (0 < copies → v ≡ option_map f entry) → counted f copies v list' ≡ map (option_map f) list
counted_of f list list' copies entry v e x =
    sym (ap (map (option_map f)) e ∙ map_taken (option_map f) copies entry list' ∙ each copies x)
  where
    each : (k : ℕ) → (0 < k → v ≡ option_map f entry) → replicate k (option_map f entry) ++ map (option_map f) list' ≡ replicate k v ++ map (option_map f) list'
    each zero x = refl
    each (suc k) x = ap (λ y. replicate (suc k) y ++ map (option_map f) list') (sym (x (omega arith)))

pub counted_none : {A : Type 0} (f : List ℕ → A) (copies : ℕ) (v : Option A) (list : List (Option (List ℕ))) → copies ≡ 0 → counted f copies v list ≡ map (option_map f) list
counted_none f copies v list e = held_none copies v (map (option_map f) list) e

pub length-counted : {A : Type 0} (f : List ℕ → A) (copies : ℕ) (v : Option A) (list : List (Option (List ℕ))) → length (counted f copies v list) ≡ copies + length list
length-counted f copies v list = length-held (option_map f) copies v list

-- ---- the run that is opened

pub opened-count : (end : List ℕ → Option ℕ) (left : ℕ) (rest : List ℕ) (p : Place) → 0 < left → Some p ≡ open_run end rest → IsCounted end 0 0 left rest → p.count ≤ left
opened-count end left rest p h e w = count-le end left p (opened-holds end left rest p h e w).0

pub opened_repeat : {A : Type 0} (end : List ℕ → Option ℕ) (f : List ℕ → A) (left : ℕ) (rest : List ℕ) (p : Place) (v : A) → 0 < left → Some p ≡ open_run end rest → IsCounted end 0 0 left rest → p.kind ≡ kinds.Repeat → v ≡ f p.item
    → IsCounted end (p.count - 1) 0 (left - p.count) p.rest × (map (option_map f) (entries_from end 0 left rest) ≡ Some v ∷ counted f (p.count - 1) (Some v) (entries_from end 0 (left - p.count) p.rest))
opened_repeat end f left rest p v h e w k x =
    let o = opened-holds end left rest p h e w in
    let s = shows_repeat end left p k o.0 o.1 o.3 in (
      fewer end p.count (p.count - 1) 0 (left - p.count) p.rest (omega arith) s.held,
      first_copy f (entries_from end 0 left rest) (entries_from end 0 (left - p.count) p.rest) p.count (Some p.item) (Some v) (o.2 ∙ s.list) (run_some end rest p e) (ap Some x),
    )

pub opened_nulls : {A : Type 0} (end : List ℕ → Option ℕ) (f : List ℕ → A) (left : ℕ) (rest : List ℕ) (p : Place) → 0 < left → Some p ≡ open_run end rest → IsCounted end 0 0 left rest → p.kind ≡ kinds.Nulls
    → IsCounted end (p.count - 1) 0 (left - p.count) p.rest × (map (option_map f) (entries_from end 0 left rest) ≡ None ∷ counted f (p.count - 1) None (entries_from end 0 (left - p.count) p.rest))
opened_nulls end f left rest p h e w k =
    let o = opened-holds end left rest p h e w in
    let s = shows_nulls end left p k o.0 o.1 o.3 in (
      fewer end p.count (p.count - 1) 0 (left - p.count) p.rest (omega arith) s.held,
      first_copy f (entries_from end 0 left rest) (entries_from end 0 (left - p.count) p.rest) p.count None None (o.2 ∙ s.list) (run_some end rest p e) refl,
    )

pub opened_literal : (end : List ℕ → Option ℕ) (left : ℕ) (rest : List ℕ) (p : Place) → 0 < left → Some p ≡ open_run end rest → IsCounted end 0 0 left rest → p.kind ≡ kinds.Literal
    → IsCounted end 0 p.count (left - p.count) p.rest × (entries_from end 0 left rest ≡ entries_from end p.count (left - p.count) p.rest)
opened_literal end left rest p h e w k =
    let o = opened-holds end left rest p h e w in
    let s = shows_literal end left p None k o.0 o.1 o.3 in
    (s.held, o.2 ∙ s.list)

-- ---- the first byte of a literal run

pub unsigned_low : (bytes : List ℕ) → 0 < length bytes → get_or bytes 0 0 < 128 → (Some 1 ≡ unsigned_end bytes) × (get_or bytes 0 0 ≡ unsigned_value (take 1 bytes))
unsigned_low [] h l = absurd (omega arith)
unsigned_low (b ∷ bytes) h l = (sym (ap length_read (first_unsigned-low (b ∷ bytes) bytes b l refl)), (let q : b ≡ b % 128 + 128 * 0 = omega arith in q))

pub signed_low : (bytes : List ℕ) → 0 < length bytes → get_or bytes 0 0 < 128 → (Some 1 ≡ signed_end bytes) × (low_value (get_or bytes 0 0) ≡ signed_value (take 1 bytes))
signed_low [] h l = absurd (omega arith)
signed_low (b ∷ bytes) h l =
    let e = first_signed-low (b ∷ bytes) bytes b l refl in
    (sym (ap length_read e), first_signed-value (b ∷ bytes) (low_value b, 1) e)

pub literal_taken : {A : Type 0} (end : List ℕ → Option ℕ) (f : List ℕ → A) (copies literal left : ℕ) (rest : List ℕ) (len : ℕ) (v : A) → 0 < literal → IsCounted end copies literal left rest → Some len ≡ end rest → v ≡ f (take len rest)
    → IsCounted end copies (literal - 1) left (take (length rest - len) (drop len rest)) × (map (option_map f) (entries_from end literal left rest) ≡ Some v ∷ map (option_map f) (entries_from end (literal - 1) left (take (length rest - len) (drop len rest))))
literal_taken end f copies literal left rest len v h w e x =
    let whole : take (length rest - len) (drop len rest) ≡ drop len rest = take_all (length rest - len) (drop len rest) (omega (arith, length-drop len rest)) in
    subst (λ r. IsCounted end copies (literal - 1) left r × (map (option_map f) (entries_from end literal left rest) ≡ Some v ∷ map (option_map f) (entries_from end (literal - 1) left r))) (sym whole)
    (literal_next end f copies literal left rest len v h w e x)

-- ---- taking some of the copies

pub copies_taken : {A : Type 0} (f : List ℕ → A) (k copies : ℕ) (v : Option A) (list : List (Option (List ℕ))) → k ≤ copies → counted f copies v list ≡ replicate k v ++ counted f (copies - k) v list
copies_taken f k copies v list h =
    let all : k + (copies - k) ≡ copies = omega (arith, h) in
    ap (λ l. l ++ map (option_map f) list) (ap (λ n. replicate n v) (sym all) ∙ sym (replicate-append-replicate k (copies - k) v)) ∙ append_assoc (replicate k v) (replicate (copies - k) v) (map (option_map f) list)
