-- A list of values that is spelled at once: what stands before a place, and before the next.
use Rattle.std.proofs.Common.{◌≡◌, ℕ, ◌+◌, ◌-◌, ◌<◌, ◌≤◌, ◌^◌, List, [], ◌∷◌, ◌++◌, length, map, get_or, take, drop, Option, Some, None, Result, Ok, Err, pos, negsuc, inl, inr, refl, sym, ap, ◌∙◌, subst, arith, append_assoc, length-append, length-take-le}
use Rattle.std.specs.Option.{option_map}
use Rattle.std.specs.Result.{OnOk}
use Rattle.std.specs.List.{flat_map}
use Rattle.std.proofs.lemmas.List.{append-nil, drop-take, length-map, map-append, take_more}
use Rattle.std.proofs.Math.Seq.{take-append_seam, drop-append_seam, take-length}
use Rattle.am_leb.specs.Leb.{leb}
use Rattle.am_runs.specs.declared.pending.PendingKind.{PendingKind}
use Rattle.am_runs.specs.declared.pending.PendingKind.TheVariants as pending
use Rattle.am_runs.specs.Items.{IsItem}
use Rattle.am_runs.specs.Typed.{AllItems}
use Rattle.am_runs.specs.Canonical.{AreNulls, Canon, canonical_bytes}
use Rattle.am_runs.specs.Pending.{pending_bytes, Holds}
use Rattle.am_runs.specs.Listing.{spelled, IsRunBefore, Stands}
use Rattle.am_runs.proofs.Arms.{null_more_at, close_null_at, open_literal_at, split_one_at, split_more_at, literal_more_at, repeat_more_at}
use Rattle.am_runs.proofs.Existing.{Canon_iff}
use Rattle.am_runs.proofs.Finishing.{finished, finished_bare, count_le}
use Rattle.am_runs.proofs.ItemsOf.{JoinsRuns-items}

-- ---- lists

pub snoc_front : {A : Type 0} (xs ys : List A) (x y : A) → xs ++ x ∷ [] ≡ ys ++ y ∷ [] → xs ≡ ys
snoc_front xs ys x y e =
    let n : length xs ≡ length ys = omega (arith, ap length e, length-append xs (x ∷ []), length-append ys (y ∷ [])) in
    sym (take-append_seam xs (x ∷ [])) ∙ ap (take (length xs)) e ∙ ap (λ k. take k (ys ++ y ∷ [])) n ∙ take-append_seam ys (y ∷ [])

-- the entries before a place, and the one there
entries_next : {V : Type 0} (f : V → List ℕ) (values : List (Option V)) (place : ℕ) (entry : Option V) → take (place + 1) values ≡ take place values ++ entry ∷ []
    → map (option_map f) (take (place + 1) values) ≡ map (option_map f) (take place values) ++ option_map f entry ∷ []
entries_next f values place entry e = ap (map (option_map f)) e ∙ map-append (option_map f) (take place values) (entry ∷ [])

spelled-some : {V : Type 0} (f : V → List ℕ) (xs : List V) → spelled f (map Some xs) ≡ flat_map f xs
spelled-some f [] = refl
spelled-some f (x ∷ xs) = ap (λ b. f x ++ b) (spelled-some f xs)

flat_map-push : {V : Type 0} (f : V → List ℕ) (xs : List V) (v : V) → flat_map f (xs ++ v ∷ []) ≡ flat_map f xs ++ f v
flat_map-push f [] v = append-nil (f v)
flat_map-push f (x ∷ xs) v = ap (λ b. f x ++ b) (flat_map-push f xs v) ∙ sym (append_assoc (f x) (flat_map f xs) (f v))

-- the items of the values before a place, and of the one there
pub spelled-append : {V : Type 0} (f : V → List ℕ) (xs ys : List (Option V)) → spelled f (xs ++ ys) ≡ spelled f xs ++ spelled f ys
spelled-append f [] ys = refl
spelled-append f (None ∷ xs) ys = spelled-append f xs ys
spelled-append f (Some x ∷ xs) ys = ap (λ b. f x ++ b) (spelled-append f xs ys) ∙ sym (append_assoc (f x) (spelled f xs) (spelled f ys))

pub spelled_next : {V : Type 0} (f : V → List ℕ) (values : List (Option V)) (i : ℕ) (value : Option V) → i < length values → value ≡ get_or values i value → spelled f (take (i + 1) values) ≡ spelled f (take i values) ++ spelled f (value ∷ [])
spelled_next f values i value n e = ap (spelled f) (take_more values i value n ∙ ap (λ x. take i values ++ x ∷ []) (sym e)) ∙ spelled-append f (take i values) (value ∷ [])

-- a run that ends before a place
last_of_run : {V : Type 0} (before : List (Option V)) (xs : List V) (v : V) → before ++ map Some (xs ++ v ∷ []) ≡ (before ++ map Some xs) ++ Some v ∷ []
last_of_run before xs v = ap (λ l. before ++ l) (map-append Some xs (v ∷ [])) ∙ sym (append_assoc before (map Some xs) (Some v ∷ []))

pub run_slice : {V : Type 0} (values before run : List (Option V)) (place start : ℕ) → place ≤ length values → start + length run ≡ place → take place values ≡ before ++ run → take (place - start) (drop start values) ≡ run
run_slice values before run place start inside n e =
    let size : length (take place values) ≡ place = length-take-le place values inside in
    let at : start ≡ length before = omega (arith, size, n, ap length e, length-append before run) in
    let count : place - start ≡ length run = omega (arith, n) in
    ap (λ k. take k (drop start values)) count
    ∙ sym (drop-take start (length run) values)
    ∙ ap (λ k. drop start (take k values)) n
    ∙ ap (drop start) e
    ∙ ap (λ k. drop k (before ++ run)) at
    ∙ drop-append_seam before run

pub spelled_run : {V : Type 0} (f : V → List ℕ) (xs : List V) (v : V) → spelled f (map Some (xs ++ v ∷ [])) ≡ flat_map f xs ++ f v
spelled_run f xs v = spelled-some f (xs ++ v ∷ []) ∙ flat_map-push f xs v

-- ---- the pending run

pub repeat_at_least : {V : Type 0} (f : V → List ℕ) (values : List (Option V)) (place count : ℕ) (front last : List ℕ) → place ≤ length values → IsRunBefore f values place pending.Repeat count front last → 1 ≤ place
repeat_at_least f values place count front last inside r =
    omega (arith, length-take-le place values inside, ap length r.2, length-append r.0 (Some r.1 ∷ []))

pub literal_at_least : {V : Type 0} (f : V → List ℕ) (values : List (Option V)) (place count : ℕ) (front last : List ℕ) → place ≤ length values → IsRunBefore f values place pending.Literal count front last → count + 1 ≤ place
literal_at_least f values place count front last inside r =
    omega (arith, length-take-le place values inside, ap length r.3, r.4, length-append r.0 (map Some (r.1 ++ r.2 ∷ [])), length-map (r.1 ++ r.2 ∷ []) Some, length-append r.1 (r.2 ∷ []))

pub repeat_spelled : {V : Type 0} (f : V → List ℕ) (values : List (Option V)) (place count : ℕ) (front last : List ℕ) → place ≤ length values → IsRunBefore f values place pending.Repeat count front last
    → spelled f (take (place - (place - 1)) (drop (place - 1) values)) ≡ last
repeat_spelled f values place count front last inside r =
    let some = repeat_at_least f values place count front last inside r in
    ap (spelled f) (run_slice values r.0 (Some r.1 ∷ []) place (place - 1) inside (omega (arith, some)) r.2) ∙ append-nil (f r.1) ∙ sym r.3

pub literal_spelled : {V : Type 0} (f : V → List ℕ) (values : List (Option V)) (place count : ℕ) (front last : List ℕ) → place ≤ length values → IsRunBefore f values place pending.Literal count front last
    → spelled f (take (place - (place - 1 - count)) (drop (place - 1 - count) values)) ≡ front ++ last
literal_spelled f values place count front last inside r =
    let some = literal_at_least f values place count front last inside r in
    ap (spelled f) (run_slice values r.0 (map Some (r.1 ++ r.2 ∷ [])) place (place - 1 - count) inside (omega (arith, some, r.4, length-map (r.1 ++ r.2 ∷ []) Some, length-append r.1 (r.2 ∷ []))) r.3)
    ∙ spelled_run f r.1 r.2 ∙ ap (λ b. b ++ f r.2) (sym r.5) ∙ ap (λ b. front ++ b) (sym r.6)

-- the items before the last of a literal run
pub front_spelled : {V : Type 0} (f : V → List ℕ) (values : List (Option V)) (place count : ℕ) (front last : List ℕ) (entry : Option V) → place ≤ length values → take (place - 1 + 1) values ≡ take (place - 1) values ++ entry ∷ [] → IsRunBefore f values place pending.Literal count front last
    → spelled f (take (place - 1 - (place - 1 - count)) (drop (place - 1 - count) values)) ≡ front
front_spelled f values place count front last entry inside next r =
    let some = literal_at_least f values place count front last inside r in
    let on : place - 1 + 1 ≡ place = omega (arith, some) in
    let seam : take (place - 1) values ++ entry ∷ [] ≡ (r.0 ++ map Some r.1) ++ Some r.2 ∷ [] = sym next ∙ ap (λ k. take k values) on ∙ r.3 ∙ last_of_run r.0 r.1 r.2 in
    ap (spelled f) (run_slice values r.0 (map Some r.1) (place - 1) (place - 1 - count) (omega (arith, inside)) (omega (arith, some, r.4, length-map r.1 Some)) (snoc_front _ _ _ _ seam))
    ∙ spelled-some f r.1 ∙ sym r.5

pub front_spelled_at : {V : Type 0} (f : V → List ℕ) (values : List (Option V)) (place count : ℕ) (front last : List ℕ) → place ≤ length values → IsRunBefore f values place pending.Literal count front last
    → spelled f (take (place - 1 - (place - 1 - count)) (drop (place - 1 - count) values)) ≡ front
front_spelled_at f values place count front last inside r =
    let some = literal_at_least f values place count front last inside r in
    front_spelled f values place count front last (get_or values (place - 1) None) inside (take_more values (place - 1) None (omega (arith, inside, some))) r

-- ---- from a place to the next

pub run_as : {V : Type 0} (f : V → List ℕ) (values : List (Option V)) (place count : ℕ) (kind other : PendingKind) (front last : List ℕ) → kind ≡ other → IsRunBefore f values place kind count front last → IsRunBefore f values place other count front last
run_as f values place count kind other front last e r = subst (λ k. IsRunBefore f values place k count front last) e r

pub count_at : {V : Type 0} (end : List ℕ → Option ℕ) (f : V → List ℕ) (start bytes : List ℕ) (values : List (Option V)) (place : ℕ) (kind : PendingKind) (count : ℕ) → place ≤ length values → Stands end f start bytes values place kind count → count ≤ place
count_at end f start bytes values place kind count inside s =
    omega (arith, count_le end s.done kind count s.front s.last _ s.holds, length-map (take place values) (option_map f), length-take-le place values inside)

pub nothing_stands : {V : Type 0} (end : List ℕ → Option ℕ) (f : V → List ℕ) (bytes : List ℕ) (values : List (Option V)) → Stands end f bytes bytes values 0 pending.Nothing 0
nothing_stands end f bytes values = record { done = []; front = []; last = []; is = sym (append-nil bytes); run = tt; holds = (refl, refl, refl) }

pub null_more : {V : Type 0} (end : List ℕ → Option ℕ) (f : V → List ℕ) (start bytes : List ℕ) (values : List (Option V)) (place : ℕ) (kind : PendingKind) (count : ℕ)
    → kind ≡ pending.Nulls → take (place + 1) values ≡ take place values ++ None ∷ []
    → Stands end f start bytes values place kind count → Stands end f start bytes values (place + 1) kind (count + 1)
null_more end f start bytes values place kind count k e s = record {
  done = s.done;
  front = s.front;
  last = s.last;
  is = s.is;
  run = run_as f values (place + 1) (count + 1) pending.Nulls kind s.front s.last (sym k) tt;
  holds = subst (Holds end s.done kind (count + 1) s.front s.last) (sym (entries_next f values place None e)) (null_more_at end s.done kind count s.front s.last _ k s.holds);
}

closed_is : {V : Type 0} (end : List ℕ → Option ℕ) (f : V → List ℕ) (start bytes new : List ℕ) (values : List (Option V)) (place : ℕ) (kind : PendingKind) (count : ℕ)
    → ((front last : List ℕ) → IsRunBefore f values place kind count front last → new ≡ bytes ++ pending_bytes kind count front last)
    → (s : Stands end f start bytes values place kind count) → new ≡ start ++ (s.done ++ pending_bytes kind count s.front s.last)
closed_is end f start bytes new values place kind count c s =
    c s.front s.last s.run ∙ ap (λ b. b ++ pending_bytes kind count s.front s.last) s.is ∙ append_assoc start s.done (pending_bytes kind count s.front s.last)

pub null_behind : {V : Type 0} (end : List ℕ → Option ℕ) (f : V → List ℕ) (start bytes new : List ℕ) (values : List (Option V)) (place : ℕ) (kind : PendingKind) (count : ℕ)
    → (kind ≡ pending.Nulls → ⊥) → take (place + 1) values ≡ take place values ++ None ∷ []
    → ((front last : List ℕ) → IsRunBefore f values place kind count front last → new ≡ bytes ++ pending_bytes kind count front last)
    → Stands end f start bytes values place kind count → Stands end f start new values (place + 1) pending.Nulls 1
null_behind end f start bytes new values place kind count k e c s = record {
  done = s.done ++ pending_bytes kind count s.front s.last;
  front = s.front;
  last = s.last;
  is = closed_is end f start bytes new values place kind count c s;
  run = tt;
  holds = subst (Holds end (s.done ++ pending_bytes kind count s.front s.last) pending.Nulls 1 s.front s.last) (sym (entries_next f values place None e)) (close_null_at end s.done _ kind count s.front s.last _ k refl s.holds);
}

pub literal_behind : {V : Type 0} (end : List ℕ → Option ℕ) (f : V → List ℕ) (start bytes new : List ℕ) (values : List (Option V)) (place : ℕ) (kind : PendingKind) (count : ℕ) (v : V)
    → IsItem end (f v) → (kind ≡ pending.Literal → ⊥)
    → (kind ≡ pending.Repeat → (before : List (Option V)) (last : V) → take place values ≡ before ++ Some last ∷ [] → f last ≡ f v → ⊥)
    → take (place + 1) values ≡ take place values ++ Some v ∷ []
    → ((front last : List ℕ) → IsRunBefore f values place kind count front last → new ≡ bytes ++ pending_bytes kind count front last)
    → Stands end f start bytes values place kind count → Stands end f start new values (place + 1) pending.Literal 0
literal_behind {V} end f start bytes new values place kind count v item k other e c s = record {
  done = s.done ++ pending_bytes kind count s.front s.last;
  front = [];
  last = f v;
  is = closed_is end f start bytes new values place kind count c s;
  run = (take place values, [], v, e, refl, refl, refl);
  holds = subst (Holds end (s.done ++ pending_bytes kind count s.front s.last) pending.Literal 0 [] (f v)) (sym (entries_next f values place (Some v) e))
      (open_literal_at end s.done _ kind count s.front s.last [] (f v) (f v) _ item k differs refl refl refl s.holds);
}
  where
    differs : kind ≡ pending.Repeat → s.last ≡ f v → ⊥
    differs r l = let run = run_as f values place count kind pending.Repeat s.front s.last r s.run in other r run.0 run.1 run.2 (sym run.3 ∙ l)

pub literal_more : {V : Type 0} (end : List ℕ → Option ℕ) (f : V → List ℕ) (start bytes : List ℕ) (values : List (Option V)) (place : ℕ) (kind : PendingKind) (count : ℕ) (v : V)
    → IsItem end (f v) → kind ≡ pending.Literal
    → ((before : List (Option V)) (last : V) → take place values ≡ before ++ Some last ∷ [] → f last ≡ f v → ⊥)
    → take (place + 1) values ≡ take place values ++ Some v ∷ []
    → Stands end f start bytes values place kind count → Stands end f start bytes values (place + 1) kind (count + 1)
literal_more {V} end f start bytes values place kind count v item k other e s =
    let r = run_as f values place count kind pending.Literal s.front s.last k s.run in
    let seam : take place values ≡ (r.0 ++ map Some r.1) ++ Some r.2 ∷ [] = r.3 ∙ last_of_run r.0 r.1 r.2 in
    let next : take (place + 1) values ≡ r.0 ++ map Some ((r.1 ++ r.2 ∷ []) ++ v ∷ []) =
    e ∙ ap (λ l. l ++ Some v ∷ []) r.3 ∙ append_assoc r.0 (map Some (r.1 ++ r.2 ∷ [])) (Some v ∷ []) ∙ ap (λ l. r.0 ++ l) (sym (map-append Some (r.1 ++ r.2 ∷ []) (v ∷ []))) in
    let front : flat_map f (r.1 ++ r.2 ∷ []) ≡ s.front ++ s.last = flat_map-push f r.1 r.2 ∙ ap (λ b. b ++ f r.2) (sym r.5) ∙ ap (λ b. s.front ++ b) (sym r.6) in
    record {
      done = s.done;
      front = flat_map f (r.1 ++ r.2 ∷ []);
      last = f v;
      is = s.is;
      run = run_as f values (place + 1) (count + 1) pending.Literal kind (flat_map f (r.1 ++ r.2 ∷ [])) (f v) (sym k) (r.0, r.1 ++ r.2 ∷ [], v, next, omega (arith, length-append r.1 (r.2 ∷ []), r.4), refl, refl);
      holds = subst (Holds end s.done kind (count + 1) (flat_map f (r.1 ++ r.2 ∷ [])) (f v)) (sym (entries_next f values place (Some v) e))
          (literal_more_at end s.done kind count s.front s.last (flat_map f (r.1 ++ r.2 ∷ [])) s.last (f v) (f v) _ k (λ l. other (r.0 ++ map Some r.1) r.2 seam (sym r.6 ∙ l)) item front refl refl s.holds);
    }

pub repeat_more : {V : Type 0} (end : List ℕ → Option ℕ) (f : V → List ℕ) (start bytes : List ℕ) (values : List (Option V)) (place : ℕ) (kind : PendingKind) (count : ℕ) (v : V)
    → kind ≡ pending.Repeat
    → ((before : List (Option V)) (last : V) → take place values ≡ before ++ Some last ∷ [] → f last ≡ f v)
    → take (place + 1) values ≡ take place values ++ Some v ∷ []
    → Stands end f start bytes values place kind count → Stands end f start bytes values (place + 1) kind (count + 1)
repeat_more end f start bytes values place kind count v k same e s =
    let r = run_as f values place count kind pending.Repeat s.front s.last k s.run in
    let last : s.last ≡ f v = r.3 ∙ same r.0 r.1 r.2 in
    record {
      done = s.done;
      front = s.front;
      last = s.last;
      is = s.is;
      run = run_as f values (place + 1) (count + 1) pending.Repeat kind s.front s.last (sym k) (take place values, v, e, last);
      holds = subst (Holds end s.done kind (count + 1) s.front s.last) (sym (entries_next f values place (Some v) e)) (repeat_more_at end s.done kind count s.front s.last (f v) _ k last s.holds);
    }

last_same : {V : Type 0} (f : V → List ℕ) (values : List (Option V)) (place count : ℕ) (front last : List ℕ) (v : V) → IsRunBefore f values place pending.Literal count front last
    → ((before : List (Option V)) (last : V) → take place values ≡ before ++ Some last ∷ [] → f last ≡ f v) → last ≡ f v
last_same f values place count front last v r same = r.6 ∙ same (r.0 ++ map Some r.1) r.2 (r.3 ∙ last_of_run r.0 r.1 r.2)

pub again_one : {V : Type 0} (end : List ℕ → Option ℕ) (f : V → List ℕ) (start bytes : List ℕ) (values : List (Option V)) (place : ℕ) (kind : PendingKind) (count : ℕ) (v : V)
    → kind ≡ pending.Literal → count ≡ 0
    → ((before : List (Option V)) (last : V) → take place values ≡ before ++ Some last ∷ [] → f last ≡ f v)
    → take (place + 1) values ≡ take place values ++ Some v ∷ []
    → Stands end f start bytes values place kind count → Stands end f start bytes values (place + 1) pending.Repeat 2
again_one end f start bytes values place kind count v k z same e s =
    let last : s.last ≡ f v = last_same f values place count s.front s.last v (run_as f values place count kind pending.Literal s.front s.last k s.run) same in
    record {
      done = s.done;
      front = s.front;
      last = s.last;
      is = s.is;
      run = (take place values, v, e, last);
      holds = subst (Holds end s.done pending.Repeat 2 s.front s.last) (ap (λ b. map (option_map f) (take place values) ++ Some b ∷ []) last ∙ sym (entries_next f values place (Some v) e))
          (split_one_at end s.done kind count s.front s.last _ k z s.holds);
    }

pub again_more : {V : Type 0} (end : List ℕ → Option ℕ) (f : V → List ℕ) (start bytes mid new slice : List ℕ) (values : List (Option V)) (place : ℕ) (kind : PendingKind) (count : ℕ) (v : V)
    → kind ≡ pending.Literal → 0 < count
    → ((before : List (Option V)) (last : V) → take place values ≡ before ++ Some last ∷ [] → f last ≡ f v)
    → take (place + 1) values ≡ take place values ++ Some v ∷ []
    → mid ≡ bytes ++ leb (negsuc (count - 1)) → new ≡ mid ++ slice
    → ((front last : List ℕ) → IsRunBefore f values place pending.Literal count front last → slice ≡ front)
    → Stands end f start bytes values place kind count → Stands end f start new values (place + 1) pending.Repeat 2
again_more end f start bytes mid new slice values place kind count v k z same e m n spelled s =
    let r = run_as f values place count kind pending.Literal s.front s.last k s.run in
    let last : s.last ≡ f v = last_same f values place count s.front s.last v r same in
    let header = leb (negsuc (count - 1)) in
    record {
      done = (s.done ++ header) ++ s.front;
      front = s.front;
      last = s.last;
      is = n ∙ ap (λ b. mid ++ b) (spelled s.front s.last r) ∙ ap (λ b. b ++ s.front) (m ∙ ap (λ b. b ++ header) s.is ∙ append_assoc start s.done header) ∙ append_assoc start (s.done ++ header) s.front;
      run = (take place values, v, e, last);
      holds = subst (Holds end ((s.done ++ header) ++ s.front) pending.Repeat 2 s.front s.last) (ap (λ b. map (option_map f) (take place values) ++ Some b ∷ []) last ∙ sym (entries_next f values place (Some v) e))
          (split_more_at end s.done (s.done ++ header) ((s.done ++ header) ++ s.front) kind count s.front s.front s.last _ k z refl refl refl s.holds);
    }

-- ---- behind the last place

null_items : (end : List ℕ → Option ℕ) (list : List (Option (List ℕ))) → AreNulls list → AllItems end list
null_items end [] n = tt
null_items end (None ∷ list) n = (tt, null_items end list n.1)
null_items end (Some x ∷ list) n = absurd (let q = n.0 in cc)

canon_is : (end : List ℕ → Option ℕ) (bytes : List ℕ) (list : List (Option (List ℕ))) → length list < 2 ^ 63 → Canon end bytes list → bytes ≡ canonical_bytes list
canon_is end bytes list l (inl c) = (Canon_iff end list bytes (null_items end list c.1) l).0 (inl c)
canon_is end bytes list l (inr c) = (Canon_iff end list bytes (JoinsRuns-items end bytes list (c.1.0, c.1.1, c.1.3, c.1.4)) l).0 (inr c)

all_entries : {V : Type 0} (f : V → List ℕ) (values : List (Option V)) (place : ℕ) → place ≡ length values → map (option_map f) (take place values) ≡ map (option_map f) values
all_entries f values place e = ap (λ k. map (option_map f) (take k values)) e ∙ ap (map (option_map f)) (take-length values)

pub listed_bare : {V : Type 0} (end : List ℕ → Option ℕ) (f : V → List ℕ) (start bytes : List ℕ) (values : List (Option V)) (place : ℕ) (kind : PendingKind) (count : ℕ)
    → kind ≡ pending.Nulls → length bytes ≡ length start → place ≡ length values → length values ≤ 2 ^ 32
    → Stands end f start bytes values place kind count → bytes ≡ start ++ canonical_bytes (map (option_map f) values)
listed_bare end f start bytes values place kind count k size at few s =
    let none : s.done ≡ [] = nil s.done (omega (arith, size, ap length s.is, length-append start s.done)) in
    s.is ∙ ap (λ b. start ++ b) (canon_is end s.done _ (omega (arith, few, length-map (take place values) (option_map f), length-take-le place values (omega (arith, at)))) (finished_bare end s.done kind count s.front s.last _ k none s.holds) ∙ ap canonical_bytes (all_entries f values place at))
  where
    nil : (xs : List ℕ) → length xs ≡ 0 → xs ≡ []
    nil [] e = refl
    nil (x ∷ xs) e = absurd (omega (arith, e))

pub listed : {V : Type 0} (end : List ℕ → Option ℕ) (f : V → List ℕ) (start bytes new : List ℕ) (values : List (Option V)) (place : ℕ) (kind : PendingKind) (count : ℕ)
    → (kind ≡ pending.Nulls → length bytes ≡ length start → ⊥) → place ≡ length values → length values ≤ 2 ^ 32
    → ((front last : List ℕ) → IsRunBefore f values place kind count front last → new ≡ bytes ++ pending_bytes kind count front last)
    → Stands end f start bytes values place kind count → new ≡ start ++ canonical_bytes (map (option_map f) values)
listed end f start bytes new values place kind count bare at few c s =
    let l : length (map (option_map f) (take place values)) < 2 ^ 63 = omega (arith, few, length-map (take place values) (option_map f), length-take-le place values (omega (arith, at))) in
    closed_is end f start bytes new values place kind count c s
    ∙ ap (λ b. start ++ b) (canon_is end (s.done ++ pending_bytes kind count s.front s.last) _ l
    (finished end s.done _ kind count s.front s.last _ (λ k e. bare k (omega (arith, ap length s.is, length-append start s.done, ap length e))) l refl s.holds) ∙ ap canonical_bytes (all_entries f values place at))

-- ---- where a run closes

ok_with : {T E : Type 0} (r : Result T E) (P Q : Type 0) → (P → Q) → OnOk r P → OnOk r Q
ok_with (Ok x) P Q f p = f p
ok_with (Err e) P Q f p = tt

pub closes_repeat : {V T E : Type 0} (r : Result T E) (f : V → List ℕ) (old mid new : List ℕ) (values : List (Option V)) (place : ℕ) (kind : PendingKind) (count : ℕ)
    → kind ≡ pending.Repeat → place ≤ length values → mid ≡ old ++ leb (pos count)
    → OnOk r (new ≡ mid ++ spelled f (take (place - (place - 1)) (drop (place - 1) values)))
    → OnOk r ((front last : List ℕ) → IsRunBefore f values place kind count front last → new ≡ old ++ pending_bytes kind count front last)
closes_repeat r f old mid new values place kind count k inside m n = ok_with r _ _ (λ n front last run.
    subst (λ k. new ≡ old ++ pending_bytes k count front last) (sym k)
    (n ∙ ap (λ b. mid ++ b) (repeat_spelled f values place count front last inside (run_as f values place count kind pending.Repeat front last k run)) ∙ ap (λ b. b ++ last) m ∙ append_assoc old (leb (pos count)) last)) n

pub closes_literal : {V T E : Type 0} (r : Result T E) (f : V → List ℕ) (old mid new : List ℕ) (values : List (Option V)) (place : ℕ) (kind : PendingKind) (count : ℕ)
    → kind ≡ pending.Literal → place ≤ length values → mid ≡ old ++ leb (negsuc count)
    → OnOk r (new ≡ mid ++ spelled f (take (place - (place - 1 - count)) (drop (place - 1 - count) values)))
    → OnOk r ((front last : List ℕ) → IsRunBefore f values place kind count front last → new ≡ old ++ pending_bytes kind count front last)
closes_literal r f old mid new values place kind count k inside m n = ok_with r _ _ (λ n front last run.
    subst (λ k. new ≡ old ++ pending_bytes k count front last) (sym k)
    (n ∙ ap (λ b. mid ++ b) (literal_spelled f values place count front last inside (run_as f values place count kind pending.Literal front last k run)) ∙ ap (λ b. b ++ (front ++ last)) m ∙ append_assoc old (leb (negsuc count)) (front ++ last))) n

pub listed_when : {V T E : Type 0} (r : Result T E) (end : List ℕ → Option ℕ) (f : V → List ℕ) (start bytes new : List ℕ) (values : List (Option V)) (place : ℕ) (kind : PendingKind) (count : ℕ)
    → (kind ≡ pending.Nulls → length bytes ≡ length start → ⊥) → place ≡ length values → length values ≤ 2 ^ 32
    → OnOk r ((front last : List ℕ) → IsRunBefore f values place kind count front last → new ≡ bytes ++ pending_bytes kind count front last)
    → Stands end f start bytes values place kind count → OnOk r (new ≡ start ++ canonical_bytes (map (option_map f) values))
listed_when r end f start bytes new values place kind count bare at few c s = ok_with r _ _ (λ c. listed end f start bytes new values place kind count bare at few c s) c
