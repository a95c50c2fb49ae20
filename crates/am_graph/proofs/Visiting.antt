-- What the parts of a graph say at a place, and a visit there.
use Rattle.std.proofs.Common.{ℕ, zero, suc, ◌≡◌, ◌+◌, ◌<◌, ◌≤◌, ◌^◌, ◌||◌, List, [], ◌∷◌, length, get_or, Bool, true, false, Option, Some, None, Result, Ok, Err, refl, sym, ap, ◌∙◌, subst, inl, inr, ◌⊎◌, All, pos, arith}
use Rattle.std.specs.Result.{IfErr, OnOk}
use Rattle.std.proofs.lemmas.Bool.{cases_lt, both_ways}
use Rattle.am_types.specs.declared.Hash.{Hash}
use Rattle.am_types.specs.Members.{Member}
use Rattle.am_types.specs.Ancestors.{ancestors}
use Rattle.am_graph.specs.declared.node.Node.{Node}
use Rattle.am_graph.specs.declared.parts.Mark.{Mark}
use Rattle.am_graph.specs.declared.reach.Reach.{Reach}
use Rattle.am_graph.specs.declared.fault.ClockFault.{ClockFault}
use Rattle.am_graph.specs.declared.fault.ClockFault.TheVariants.{UnknownHead, NoMemory}
use Rattle.am_graph.specs.Graphs.{node_of, nodes, names, is_held, missing, IsSound, MatchFault}
use Rattle.am_graph.specs.Reaches.{number, Raised, Merged, IsTableOf}
use Rattle.am_graph.specs.Whole.{WholeOf}
use Rattle.am_graph.specs.Walks.{is_place_of, Walk}
use Rattle.am_graph.proofs.Growing.{one_hash, length_nodes, node_at, number_at}
use Rattle.am_graph.proofs.Sweeping.{find_none_within}
use Rattle.am_graph.proofs.Waiting.{place_at}
use Rattle.am_graph.proofs.Walking.{walk_takes, walk_visits}

abbrev pub no_member : Member
no_member = record { hash = record { 0 = [] }; change = record { deps = []; actor = []; seq = 0; start = 0; time = pos 0; message = []; ops = []; extra = [] } }

pub place_within : (g : List (Hash × Node)) (hs : List Hash) (k : ℕ) → is_place_of g hs k ≡ true → k < length g
place_within [] hs k e = absurd (both_ways false refl e)
place_within (x ∷ g) hs zero e = omega arith
place_within (x ∷ g) hs (suc k) e = let again = place_within g hs k e in omega arith

-- none is missing
pub none_missing : (g : List (Hash × Node)) (hs : List Hash) → All (λ h. is_held g h ≡ true) hs → missing g hs ≡ None
none_missing g hs all = find_none_within (is_held g) hs (λ k d z l. all k d l)

-- a fault is want of memory, where none is missing
pub only_memory : {A : Type 0} (r : Result A ClockFault) (g : List (Hash × Node)) (hs : List Hash) → missing g hs ≡ None → IfErr r (λ fault. MatchFault fault (λ h. missing g hs ≡ Some h)) → IfErr r (λ fault. fault ≡ NoMemory)
only_memory (Ok a) g hs e h = h
only_memory (Err (UnknownHead x)) g hs e h = absurd (clash (sym e ∙ h))
  where
    clash : None ≡ Some x → ⊥
    clash e = cc
only_memory (Err NoMemory) g hs e h = refl

module _ (g : List (Hash × Node)) (marks : List Mark) (authors : List (List ℕ)) (f : ℕ → ℕ → Option Hash) (whole : WholeOf g marks authors f)
    (place : ℕ) (l : place < length g) (e : Hash × Node) (at : (d : Hash × Node) → get_or g place d ≡ e) (mark : Mark) (marked : get_or marks place mark ≡ mark) where
  pub deps_held : All (λ h. is_held g h ≡ true) e.1.deps
  deps_held = subst (λ q. All (λ h. is_held g h ≡ true) q.1.deps) (at e) (whole.sound.closed place e l)

  pub deps_before : (q : ℕ) → is_place_of g e.1.deps q ≡ true → q < place
  deps_before q t =
      let b : q < length g = place_within g e.1.deps q t in
      elim (cases_lt q place) [
        | inl x ↦ x
        | inr x ↦ absurd (both_ways _ (whole.sound.backward place q e x b) (ap (λ n. names n (get_or g q e).0) (at e) ∙ sym (place_at g e.1.deps q e b) ∙ t))
      ]

  pub ends_low : e.1.start + e.1.count ≤ 2 ^ 53
  ends_low = subst (λ q. q.1.start + q.1.count ≤ 2 ^ 53) (at e) (whole.sound.ends place e l)

  pub author_is : number authors e.1.actor ≡ Some mark.author
  author_is = ap (λ q. number authors q.1.actor) (sym (at e)) ∙ whole.numbers place mark e l ∙ ap (λ q. Some q.author) marked

  pub author_low : mark.author < length authors
  author_low = (number_at authors e.1.actor mark.author author_is).0

  module _ (C : List Member) (is : g ≡ nodes C) where
    in_set : place < length C
    in_set = let a = length_nodes C in let b = ap length is in omega arith

    node_here : (d : Member) → e ≡ ((get_or C place d).hash, node_of (get_or C place d).change)
    node_here d = sym (at e) ∙ ap (λ q. get_or q place e) is ∙ node_at C place d e in_set

    soundC : IsSound (nodes C)
    soundC = subst IsSound is whole.sound

    module _ (hs : List Hash) (V W : ℕ → Bool) (T U : List Reach) (walk : Walk authors C hs V T) (vi : V place ≡ true) (fewer : (q : ℕ) → W q ≡ true → V q ≡ true) (split : (q : ℕ) → V q ≡ true → (q ≡ place) ⊎ (W q ≡ true)) where
      -- by the table that was kept
      pub visit_kept : (S : List Reach) → IsTableOf authors (ancestors C ((get_or C place no_member).hash ∷ [])) S → Merged T U S → Walk authors C hs W U
      visit_kept S table merged = walk_takes authors C (one_hash C soundC) hs V W T U walk place no_member in_set vi fewer split S table merged

      -- by the change itself
      pub visit_own : (r : Reach) → r ≡ record { seq = e.1.seq; end = e.1.start + e.1.count } → Raised T U mark.author r → (X : ℕ → Bool) → ((k : ℕ) → X k ≡ (W k || is_place_of g e.1.deps k)) → Walk authors C hs X U
      visit_own r rs raised X more =
          let here : e ≡ ((get_or C place no_member).hash, node_of (get_or C place no_member).change) = node_here no_member in
          walk_visits authors C (one_hash C soundC) hs V W T U walk place no_member in_set vi fewer split mark.author
          (ap (λ q. number authors q.1.actor) (sym here) ∙ author_is)
          (subst (λ r. Raised T U mark.author r) (rs ∙ ap (λ (q : Hash × Node). record { seq = q.1.seq; end = q.1.start + q.1.count }) here) raised)
          X (λ k. more k ∙ (λ i. W k || is_place_of (is i) (here i).1.deps k))

pub on_ok : {A E : Type 0} (r : Result A E) (P Q : Type 0) → (P → Q) → OnOk r P → OnOk r Q
on_ok (Ok a) P Q f p = f p
on_ok (Err e) P Q f p = p
