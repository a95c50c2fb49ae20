-- What a delivery leaves in a store.
use Rattle.std.proofs.Common.{ℕ, ◌≡◌, Option, List, [], ◌++◌, length, get_or, Contains, IsPermutation, refl, sym, ap, ◌∙◌, subst, inl, inr, arith}
use Rattle.std.proofs.lemmas.List.{append-nil, length-append, length-map}
use Rattle.std.proofs.lemmas.List.Elements.{All-append, All-map, All-contains, Contains-get_or, Contains-append_left, Contains-append_right, Contains-append_cases}
use Rattle.std.proofs.lemmas.List.Sorted.{IsPermutation-refl, IsPermutation-sym, Contains-permutation}
use Rattle.am_types.specs.declared.Hash.{Hash}
use Rattle.am_types.specs.declared.Change.{Change}
use Rattle.am_types.specs.declared.Rejected.{Rejected}
use Rattle.am_types.specs.Members.{Member}
use Rattle.am_types.specs.Deliver.{Sets, AreStored, deliver}
use Rattle.am_types.proofs.Lists.{all_of}
use Rattle.am_change.specs.Hashes.{with_hash, with_hashes}
use Rattle.am_change.specs.Judgement.{HasOwnHashes}
use Rattle.am_delivery.specs.Laws.{KeepsWhatCame}
use Rattle.am_delivery.specs.Waiting.{member_of, members_of, IsTracked}
use Rattle.am_delivery.specs.declared.Pending.{Pending}
use Rattle.am_store.specs.Grown.{Grown, IsOwn}
use Rattle.am_store.specs.Kept.{Kept, IsKept, Takes}

pub own_of : (cs : List Change) → HasOwnHashes (with_hashes cs)
own_of cs = All-map IsOwn with_hash cs (λ k d l. refl)

own_left : (C W L D V : List Member) → KeepsWhatCame → HasOwnHashes (C ++ W) → HasOwnHashes L → D ≡ (deliver C W L).closed → IsPermutation (deliver C W L).waiting V → HasOwnHashes (D ++ V)
own_left C W L D V keeps own came e p k d l =
    let s = deliver C W L in
    let m = get_or (D ++ V) k d in
    let there : Contains (s.closed ++ s.waiting) m = elim (Contains-append_cases D V m (Contains-get_or (D ++ V) k d l)) [
      | inl a ↦ Contains-append_left s.closed s.waiting m (subst (λ xs. Contains xs m) e a)
      | inr b ↦ Contains-append_right s.closed s.waiting m (Contains-permutation V s.waiting m (IsPermutation-sym s.waiting V p) b)
    ] in
    elim (Contains-append_cases (C ++ W) L m (keeps C W L m there)) [ inl a ↦ All-contains IsOwn (C ++ W) m own a | inr b ↦ All-contains IsOwn L m came b ]

pub closed_own : (k : Kept) → IsKept k → HasOwnHashes k.closed
closed_own k is = all_of IsOwn k.closed (λ m c. All-contains IsOwn (k.closed ++ k.waiting) m is.own_hashes (Contains-append_left k.closed k.waiting m c))

-- what waits and what comes stand beside their own hashes
pub both_own : (k : Kept) → IsKept k → (L : List Member) → HasOwnHashes L → HasOwnHashes (k.waiting ++ L)
both_own k is L came = All-append IsOwn k.waiting L (all_of IsOwn k.waiting (λ m c. All-contains IsOwn (k.closed ++ k.waiting) m is.own_hashes (Contains-append_right k.closed k.waiting m c))) came

-- ---- nothing has joined yet

abbrev pub begins : List (Hash × Change) → Grown
begins es = record { old = es; fresh = [] }

module _ (es : List (Hash × Change)) (g : Grown) (begun : g ≡ begins es) where
  pub at_start : members_of (g.old ++ g.fresh) ≡ members_of es
  at_start = ap (λ (h : Grown). members_of (h.old ++ h.fresh)) begun ∙ ap members_of (append-nil es)

  pub rests : members_of (g.old ++ g.fresh) ≡ members_of g.old
  rests = at_start ∙ sym (ap (λ (h : Grown). members_of h.old) begun)

  pub starts_stored : (W : List Member) → AreStored (members_of es) W → AreStored (members_of (g.old ++ g.fresh)) W
  starts_stored W s = subst (λ C. AreStored C W) (sym at_start) s

  pub starts_tracked : (W : List Member) (pending : Option Pending) → IsTracked (members_of es) W pending → IsTracked (members_of (g.old ++ g.fresh)) W pending
  starts_tracked W pending t = subst (λ C. IsTracked C W pending) (sym at_start) t

-- ---- what is left

-- C is closed now, to which `joined` have come, and is at rest as D; V wait
module _ (es : List (Hash × Change)) (W L B C D V : List Member) (joined : List (Hash × Change))
    (start : B ≡ members_of es)
    (closed : C ≡ (deliver B W L).closed)
    (waiting : IsPermutation (deliver B W L).waiting V)
    (stored : AreStored C V)
    (more : C ≡ B ++ members_of joined)
    (rest : C ≡ D) where
  same_outcome : deliver B W L ≡ deliver (members_of es) W L
  same_outcome = ap (λ A. deliver A W L) start

  new_closed : D ≡ (deliver (members_of es) W L).closed
  new_closed = sym rest ∙ closed ∙ ap (λ (s : Sets). s.closed) same_outcome

  new_waiting : IsPermutation (deliver (members_of es) W L).waiting V
  new_waiting = subst (λ (s : Sets). IsPermutation s.waiting V) same_outcome waiting

  pub kept_after : KeepsWhatCame → HasOwnHashes (members_of es ++ W) → HasOwnHashes L → IsKept (record { closed = D; waiting = V })
  kept_after keeps own came = record {
    stored = subst (λ A. AreStored A V) rest stored;
    own_hashes = own_left (members_of es) W L D V keeps own came new_closed new_waiting;
  }

  pub takes : (R : List Rejected) (n k : ℕ) → R ≡ (deliver B W L).rejected → n ≡ length joined → k ≡ length V
      → Takes (record { closed = members_of es; waiting = W }) L (record { added = n; waiting = k; rejected = R }) (record { closed = D; waiting = V })
  takes R n k rejected count wait =
      let all : D ≡ members_of es ++ members_of joined = sym rest ∙ more ∙ ap (λ A. A ++ members_of joined) start in
      record {
        closed = subst (IsPermutation (deliver (members_of es) W L).closed) (sym new_closed) (IsPermutation-refl (deliver (members_of es) W L).closed);
        waiting = new_waiting;
        rejected = rejected ∙ ap (λ (s : Sets). s.rejected) same_outcome;
        added =
            let a = length-map joined member_of in
            let b = length-append (members_of es) (members_of joined) in
            let c = ap length all in
            omega arith;
        wait = wait;
      }
