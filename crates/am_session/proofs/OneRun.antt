-- Where files are told, the machine gives one reply to a command, and one list of replies to a script, however the two
-- sets are listed.
use Rattle.std.proofs.Common.{◌≡◌, ℕ, ◌-◌, List, [], ◌∷◌, ◌++◌, length, Bool, true, false, Option, Some, None, refl, sym, ap, subst, ◌∙◌, inl, inr, ◌⊎◌, arith}
use Rattle.std.specs.Prelude.{All, Contains, IsPermutation, map, option_map}
use Rattle.std.proofs.lemmas.List.Sorted.{IsPermutation-refl, IsPermutation-sym, IsPermutation-trans, IsPermutation-map, Contains-permutation, length_permutation, sum_by-IsPermutation}
use Rattle.std.specs.FinMap.{insert}
use Rattle.am_outside.specs.Files.{Files, Stands}
use Rattle.am_frame.specs.Frames.{Chunk, IsFile}
use Rattle.am_frame.specs.Faults.{FirstBad}
use Rattle.am_frame.specs.declared.FrameFault.{FrameFault}
use Rattle.am_types.specs.declared.Change.{Change}
use Rattle.am_types.specs.declared.Hash.{Hash}
use Rattle.am_types.specs.Order.{hash_cmp, sorted_by, same as same_by}
use Rattle.am_types.specs.Fine.{pred_count}
use Rattle.am_types.specs.Members.{Member, changes, hashes, member}
use Rattle.am_types.specs.ValidSets.{Valid}
use Rattle.am_types.specs.Deliver.{AreStored, MayCome}
use Rattle.am_types.proofs.Orders.{same_hash-true}
use Rattle.am_laws.specs.Laws.{ListingIsFree, ValidSetsKeepRules}
use Rattle.am_delivery.specs.Laws as delivery
use Rattle.am_delivery.proofs.Deliveries.{distinct_from_pairs}
use Rattle.am_delivery.proofs.Members.{unique}
use Rattle.am_delivery.proofs.Reasons.{find_same}
use Rattle.am_doc.specs.Contents.{body}
use Rattle.am_change.specs.Contents.{chunk}
use Rattle.am_change.specs.Hashes.{with_hashes}
use Rattle.am_store.specs.Kept.{Kept}
use Rattle.am_store.specs.Files as store
use Rattle.am_store.specs.History.{line_of}
use Rattle.am_store.specs.Saved.{document, chunks, chunk_in, saved_all}
use Rattle.am_store.specs.declared.LoadFault.{LoadFault}
use Rattle.am_session.proofs.Alike.{read_alike, document_alike}
use Rattle.am_session.proofs.Coming.{changes_may_come}
use Rattle.am_session.specs.declared.request.Request.{Request}
use Rattle.am_session.specs.declared.request.Request.TheVariants.{Do, LongLine, Syntax, BadHash}
use Rattle.am_session.specs.Session.{Held, SameSets, SameHeld, nothing_held, with_kept, with_views}
use Rattle.am_session.proofs.SameHeld.{MayHold, same_held, between, same_with}
use Rattle.am_session.specs.Replies.{hash_list, kept_reply}
use Rattle.am_session.specs.Listing.{Lists, listing, bad_chunk}
use Rattle.am_session.specs.Apply.{Applies, Delivers, outcome, report_text, bad_file}
use Rattle.am_session.specs.Reading.{named_or_heads, reading}
use Rattle.am_session.specs.Views.{view_at, viewed, Shows}
use Rattle.am_session.specs.Stats.{stats_line, stats_text}
use Rattle.am_session.specs.History.{history_text}
use Rattle.am_json.specs.declared.Form.{Form}
use Rattle.am_json.specs.declared.Form.TheVariants as form
use Rattle.am_session.specs.Machine.{State, state, first_state, SameState, with_file, Keeps, Exports, Answers, Runs, left_after}
use Rattle.am_script.specs.declared.Command.TheVariants.{Frames, Apply, Load, Save, SaveAll, Heads, Waiting, History, Show, Conflicts, Audit, Export, Stats, Bench}

-- what the crates below promise
pub record Laws : Type 0 where
  pub file : (bytes : List ℕ) (chunks others : List Chunk) → IsFile bytes chunks → IsFile bytes others → chunks ≡ others
  pub bad : (bytes : List ℕ) (j k : ℕ) (fault other : FrameFault) → FirstBad bytes j fault → FirstBad bytes k other → (j ≡ k) × (fault ≡ other)
  pub never_both : (bytes : List ℕ) (chunks : List Chunk) (k : ℕ) (fault : FrameFault) → IsFile bytes chunks → FirstBad bytes k fault → ⊥
  pub one_file : (only : Bool) (bytes : List ℕ) (cs ds : List Change) → store.IsFile only bytes cs → store.IsFile only bytes ds → cs ≡ ds
  pub one_fault : (only : Bool) (bytes : List ℕ) (j k : ℕ) (f g : LoadFault) → store.FirstBad only bytes j f → store.FirstBad only bytes k g → (j ≡ k) × (f ≡ g)
  pub file_or_fault : (only : Bool) (bytes : List ℕ) (cs : List Change) (k : ℕ) (f : LoadFault) → store.IsFile only bytes cs → store.FirstBad only bytes k f → ⊥
  pub deliveries : delivery.ListingIsFree
  pub stored : delivery.StaysStored
  pub waiting : delivery.WaitingSortsAlike
  pub reads : ListingIsFree
  pub rules : ValidSetsKeepRules
  pub sorts : (xs ys : List Hash) → IsPermutation xs ys → sorted_by hash_cmp ys ≡ sorted_by hash_cmp xs

-- ---- states that list the same sets

-- a state of what a session may hold, and whose files are told
pub record Sound (s : State) : Type 0 where
  pub held : MayHold s.held
  pub told : Files
  pub files : s.files ≡ Some told

-- two answers agree: one reply, and states that list the sets of one sound state
pub record Agree (r q : List ℕ) (end other : State) : Type 0 where
  pub reply : r ≡ q
  pub next : State
  pub sound : Sound next
  pub left : SameState next end
  pub right : SameState next other

-- the same of what is held
record AgreeHeld (r q : List ℕ) (end other : Held) : Type 0 where
  reply : r ≡ q
  next : Held
  may : MayHold next
  left : SameHeld next end
  right : SameHeld next other

stay : (c s t : State) (r q : List ℕ) (end other : State) → Sound c → SameState c s → SameState c t → r ≡ q → end ≡ s → other ≡ t → Agree r q end other
stay c s t r q end other sound p k same e f = record {
  reply = same;
  next = c;
  sound = sound;
  left = subst (SameState c) (sym e) p;
  right = subst (SameState c) (sym f) k;
}

-- ---- one command

one_listing : Laws → (file other : Option (List ℕ)) (r s : List ℕ) → file ≡ other → Lists file r → Lists other s → r ≡ s
one_listing law None None r s e p q = p ∙ sym q
one_listing law None (Some bytes) r s e p q = absurd (cc)
one_listing law (Some bytes) None r s e p q = absurd (cc)
one_listing law (Some bytes) (Some others) r s e p q = one (subst (λ b. Lists (Some b) s) (sym same) q) p
  where
    same : bytes ≡ others
    same = cc

    one : Lists (Some bytes) s → Lists (Some bytes) r → r ≡ s
    one (inl q) (inl p) = p.2 ∙ ap listing (law.file bytes p.0 q.0 p.1 q.1) ∙ sym q.2
    one (inr q) (inl p) = absurd (law.never_both bytes p.0 q.0 q.1 p.1 q.2)
    one (inl q) (inr p) = absurd (law.never_both bytes q.0 p.0 p.1 q.1 p.2)
    one (inr q) (inr p) = let same = law.bad bytes p.0 q.0 p.1 q.1 p.2 q.2 in p.3 ∙ (λ i. bad_chunk (same.1 i) (same.0 i)) ∙ sym q.3

-- what is told of a delivery is told of it to the same sets in another order
one_report : Laws → (c s : Kept) (cs : List Change) (reply : List ℕ) (new : Kept) → AreStored c.closed c.waiting → All MayCome (with_hashes cs) → SameSets c s → Delivers s cs reply new →
    (reply ≡ report_text (length (outcome c cs).closed - length c.closed) (length (outcome c cs).waiting) (outcome c cs).rejected)
    × SameSets (record { closed = (outcome c cs).closed; waiting = (outcome c cs).waiting }) new
one_report law c s cs reply new stored come same told =
    let alike = law.deliveries c.closed s.closed c.waiting s.waiting (with_hashes cs) stored same.closed same.waiting come in
    let closed = length_permutation (outcome c cs).closed (outcome s cs).closed alike.closed in
    let waiting = length_permutation (outcome c cs).waiting (outcome s cs).waiting alike.waiting in
    let before = length_permutation c.closed s.closed same.closed in
    let rejected = sym alike.rejected in (
      told.reply_is ∙ (λ i. report_text (closed i - before i) (waiting i) (rejected i)),
      record {
        closed = IsPermutation-trans (outcome c cs).closed (outcome s cs).closed new.closed alike.closed told.closed;
        waiting = IsPermutation-trans (outcome c cs).waiting (outcome s cs).waiting new.waiting alike.waiting told.waiting;
      },
    )

one_applied : Laws → (only : Bool) (c s t : Held) → MayHold c → SameHeld c s → SameHeld c t → (file other : Option (List ℕ)) (r q : List ℕ) (end last : Held) → file ≡ other → Applies only file s r end → Applies only other t q last → AgreeHeld r q end last
one_applied law only c s t may p k None None r q end last e f g = record {
  reply = f.0 ∙ sym g.0;
  next = c;
  may = may;
  left = subst (SameHeld c) (sym f.1) p;
  right = subst (SameHeld c) (sym g.1) k;
}
one_applied law only c s t may p k None (Some bytes) r q end last e f g = absurd (cc)
one_applied law only c s t may p k (Some bytes) None r q end last e f g = absurd (cc)
one_applied law only c s t may p k (Some bytes) (Some others) r q end last e f g = one f (subst (λ b. Applies only (Some b) t q last) (sym same) g)
  where
    same : bytes ≡ others
    same = cc

    both : (cs : List Change) → store.IsFile only bytes cs → Delivers s.kept cs r end.kept → end ≡ with_kept s end.kept → Delivers t.kept cs q last.kept → last ≡ with_kept t last.kept → AgreeHeld r q end last
    both cs is x e y f =
        let come = changes_may_come law.rules only bytes cs is in
        let here = one_report law c.kept s.kept cs r end.kept may come p.sets x in
        let there = one_report law c.kept t.kept cs q last.kept may come k.sets y in
        let sets : Kept = record { closed = (outcome c.kept cs).closed; waiting = (outcome c.kept cs).waiting } in
        record {
          reply = here.0 ∙ sym there.0;
          next = with_kept c sets;
          may = law.stored c.kept.closed c.kept.waiting (with_hashes cs) may come;
          left = same_with c s end sets p here.1 e;
          right = same_with c t last sets k there.1 f;
        }

    one : (((cs : List Change) × store.IsFile only bytes cs × Delivers s.kept cs r end.kept × (end ≡ with_kept s end.kept)) ⊎ ((k : ℕ) × (fault : LoadFault) × store.FirstBad only bytes k fault × (r ≡ bad_file fault k) × (end ≡ s)))
        → (((cs : List Change) × store.IsFile only bytes cs × Delivers t.kept cs q last.kept × (last ≡ with_kept t last.kept)) ⊎ ((k : ℕ) × (fault : LoadFault) × store.FirstBad only bytes k fault × (q ≡ bad_file fault k) × (last ≡ t))) → AgreeHeld r q end last
    one (inl x) (inl y) = both x.0 x.1 x.2 x.3 (subst (λ cs. Delivers t.kept cs q last.kept) (law.one_file only bytes y.0 x.0 y.1 x.1) y.2) y.3
    one (inl x) (inr y) = absurd (law.file_or_fault only bytes x.0 y.0 y.1 x.1 y.2)
    one (inr x) (inl y) = absurd (law.file_or_fault only bytes y.0 x.0 x.1 y.1 x.2)
    one (inr x) (inr y) =
        let bad = law.one_fault only bytes x.0 y.0 x.1 y.1 x.2 y.2 in
        record {
          reply = x.3 ∙ (λ i. bad_file (bad.1 i) (bad.0 i)) ∙ sym y.3;
          next = c;
          may = may;
          left = subst (SameHeld c) (sym x.4) p;
          right = subst (SameHeld c) (sym y.4) k;
        }

-- the hashes at which something is read don't depend on how the closed set is listed
one_place : Laws → (named : List Hash) (C D : List Member) → Valid C → IsPermutation C D → named_or_heads named D ≡ named_or_heads named C
one_place law [] C D valid same = (law.reads C D valid same).heads
one_place law (h ∷ hs) C D valid same = refl

-- what is held once this was shown
abbrev shown : Form → List Hash → Held → Held
shown form named c = with_views c (viewed (view_at form (named_or_heads named c.kept.closed)) (reading form named c.kept.closed) c.views)

one_shown : Laws → (form : Form) (named : List Hash) (c s end : Held) (r : List ℕ) → MayHold c → SameHeld c s → Shows form named s r end → (r ≡ reading form named c.kept.closed) × SameHeld (shown form named c) end
one_shown law form named c s end r may p f =
    let told = f.0 ∙ read_alike law.reads form named c.kept.closed s.kept.closed may.valid p.sets.closed in
    let at = one_place law named c.kept.closed s.kept.closed may.valid p.sets.closed in (
      told,
      subst (SameHeld (shown form named c)) (sym f.1) (record { sets = p.sets; views = λ i. viewed (view_at form (sym at i)) (sym told i) (p.views i) }),
    )

one_show : Laws → (form : Form) (named : List Hash) (c s t : State) (r q : List ℕ) (end other : State) → Sound c → SameState c s → SameState c t
    → Shows form named s.held r end.held → end.files ≡ s.files → Shows form named t.held q other.held → other.files ≡ t.files → Agree r q end other
one_show law form named c s t r q end other sound p k f e g d =
    let here = one_shown law form named c.held s.held end.held r sound.held p.held f in
    let there = one_shown law form named c.held t.held other.held q sound.held k.held g in
    record {
      reply = here.0 ∙ sym there.0;
      next = state (shown form named c.held) c.files;
      sound = record { held = sound.held; told = sound.told; files = sound.files };
      left = record { held = here.1; files = p.files ∙ sym e };
      right = record { held = there.1; files = k.files ∙ sym d };
    }

-- what is told of the sets doesn't depend on how they are listed
one_stats : Laws → (c s : Held) → MayHold c → SameHeld c s → stats_text s.kept s.views.hits ≡ stats_text c.kept c.views.hits
one_stats law c s may p =
    let C = c.kept.closed in
    let D = s.kept.closed in
    let all = IsPermutation-map (λ (m : Member). m.change) C D p.sets.closed in
    let many = length_permutation (changes C) (changes D) all in
    let operations = sum_by-IsPermutation (λ (c : Change). length c.ops) (changes C) (changes D) all in
    let preds = sum_by-IsPermutation (λ (c : Change). pred_count c.ops) (changes C) (changes D) all in
    let links = sum_by-IsPermutation (λ (c : Change). length c.deps) (changes C) (changes D) all in
    let waiting = length_permutation c.kept.waiting s.kept.waiting p.sets.waiting in
    let tables = (law.reads C D may.valid p.sets.closed).table in
    λ i. stats_line (record { changes = many i; operations = operations i; preds = preds i; links = links i; waiting = waiting i }) (length (body (tables i))) (sym p.views i).hits

one_found : (c s t : State) (name : List ℕ) (file other : Option (List ℕ)) → Sound c → SameState c s → SameState c t → Stands s.files name file → Stands t.files name other → file ≡ other
one_found c s t name file other sound p k f g =
    let a = subst (λ x. Stands x name file) (sym p.files ∙ sound.files) f in
    let b = subst (λ x. Stands x name other) (sym k.files ∙ sound.files) g in
    sym a ∙ b

-- what is saved doesn't depend on how the sets are listed
one_document : Laws → (c s : Held) → MayHold c → SameHeld c s → document s.kept.closed ≡ document c.kept.closed
one_document law c s may p = document_alike law.reads c.kept.closed s.kept.closed may.valid p.sets.closed

one_save : Laws → (c s : Held) → MayHold c → SameHeld c s → saved_all s.kept ≡ saved_all c.kept
one_save law c s may p =
    let closed = one_document law c s may p in
    let waiting = law.waiting c.kept.closed c.kept.waiting s.kept.waiting may p.sets.waiting in
    λ i. closed i ++ chunks (waiting i)

one_kept : (c s t : State) (name bytes here there : List ℕ) (r q : List ℕ) (end other : State) → Sound c → SameState c s → SameState c t → here ≡ bytes → there ≡ bytes → Keeps s name here r end → Keeps t name there q other → Agree r q end other
one_kept c s t name bytes here there r q end other sound p k a b f g = record {
  reply = f.0 ∙ ap (λ all. kept_reply (length all)) (a ∙ sym b) ∙ sym g.0;
  next = state c.held (with_file name bytes c.files);
  sound = record { held = sound.held; told = insert sound.told name bytes; files = ap (with_file name bytes) sound.files };
  left = subst (SameState (state c.held (with_file name bytes c.files))) (sym f.1) (record { held = p.held; files = λ i. with_file name (sym a i) (p.files i) });
  right = subst (SameState (state c.held (with_file name bytes c.files))) (sym g.1) (record { held = k.held; files = λ i. with_file name (sym b i) (k.files i) });
}

-- the change with a hash is the same in each listing
one_chunk : Laws → (c s : Held) → MayHold c → SameHeld c s → (h : Hash) → chunk_in s.kept.closed h ≡ chunk_in c.kept.closed h
one_chunk law c s may p h =
    let C = c.kept.closed in
    let D = s.kept.closed in
    let one : (x y : Member) → Contains C x → Contains C y → same_by hash_cmp h x.hash ≡ true → same_by hash_cmp h y.hash ≡ true → x ≡ y =
    λ x y cx cy hx hy. unique C (distinct_from_pairs C (law.rules C may.valid).hashes) x y cx cy (sym (same_hash-true h x.hash hx) ∙ same_hash-true h y.hash hy) in
    let same : member C h ≡ member D h =
    find_same (λ (m : Member). same_by hash_cmp h m.hash) C D one (λ x. Contains-permutation C D x p.sets.closed) (λ x. Contains-permutation D C x (IsPermutation-sym C D p.sets.closed)) in
    ap (option_map (λ (m : Member). chunk m.change)) (sym same)

one_export : (c s t : State) (hash : Hash) (name : List ℕ) (found here there : Option (List ℕ)) (r q : List ℕ) (end other : State) → Sound c → SameState c s → SameState c t → here ≡ found → there ≡ found → Exports here s hash name r end → Exports there t hash name q other → Agree r q end other
one_export c s t hash name None here there r q end other sound p k a b f g =
    let x : Exports None s hash name r end = subst (λ o. Exports o s hash name r end) a f in
    let y : Exports None t hash name q other = subst (λ o. Exports o t hash name q other) b g in
    stay c s t r q end other sound p k (x.0 ∙ sym y.0) x.1 y.1
one_export c s t hash name (Some bytes) here there r q end other sound p k a b f g =
    one_kept c s t name bytes bytes bytes r q end other sound p k refl refl (subst (λ o. Exports o s hash name r end) a f) (subst (λ o. Exports o t hash name q other) b g)

one_answer : Laws → (c s t : State) (asked : Request) (r q : List ℕ) (end other : State) → Sound c → SameState c s → SameState c t → Answers s asked r end → Answers t asked q other → Agree r q end other
one_answer law c s t (Do (Frames name)) r q end other sound p k f g = stay c s t r q end other sound p k (one_listing law f.0 g.0 r q (one_found c s t name f.0 g.0 sound p k f.1 g.1) f.2 g.2) f.3 g.3
one_answer law c s t (Do (Apply name)) r q end other sound p k f g =
    let held = one_applied law true c.held s.held t.held sound.held p.held k.held f.0 g.0 r q end.held other.held (one_found c s t name f.0 g.0 sound p k f.1 g.1) f.2 g.2 in
    record {
      reply = held.reply;
      next = state held.next c.files;
      sound = record { held = held.may; told = sound.told; files = sound.files };
      left = record { held = held.left; files = p.files ∙ sym f.3 };
      right = record { held = held.right; files = k.files ∙ sym g.3 };
    }
one_answer law c s t (Do (Load name)) r q end other sound p k f g =
    let held = one_applied law false c.held s.held t.held sound.held p.held k.held f.0 g.0 r q end.held other.held (one_found c s t name f.0 g.0 sound p k f.1 g.1) f.2 g.2 in
    record {
      reply = held.reply;
      next = state held.next c.files;
      sound = record { held = held.may; told = sound.told; files = sound.files };
      left = record { held = held.left; files = p.files ∙ sym f.3 };
      right = record { held = held.right; files = k.files ∙ sym g.3 };
    }
one_answer law c s t (Do (Save name)) r q end other sound p k f g =
    one_kept c s t name (document c.held.kept.closed) _ _ r q end other sound p k (one_document law c.held s.held sound.held p.held) (one_document law c.held t.held sound.held k.held) f g
one_answer law c s t (Do (SaveAll name)) r q end other sound p k f g =
    one_kept c s t name (saved_all c.held.kept) _ _ r q end other sound p k (one_save law c.held s.held sound.held p.held) (one_save law c.held t.held sound.held k.held) f g
one_answer law c s t (Do Heads) r q end other sound p k f g =
    let here = (law.reads c.held.kept.closed s.held.kept.closed sound.held.valid p.held.sets.closed).heads in
    let there = (law.reads c.held.kept.closed t.held.kept.closed sound.held.valid k.held.sets.closed).heads in
    stay c s t r q end other sound p k (f.0 ∙ ap hash_list (here ∙ sym there) ∙ sym g.0) f.1 g.1
one_answer law c s t (Do Waiting) r q end other sound p k f g =
    let here = law.sorts (hashes c.held.kept.waiting) (hashes s.held.kept.waiting) (IsPermutation-map (λ m. m.hash) c.held.kept.waiting s.held.kept.waiting p.held.sets.waiting) in
    let there = law.sorts (hashes c.held.kept.waiting) (hashes t.held.kept.waiting) (IsPermutation-map (λ m. m.hash) c.held.kept.waiting t.held.kept.waiting k.held.sets.waiting) in
    stay c s t r q end other sound p k (f.0 ∙ ap hash_list (here ∙ sym there) ∙ sym g.0) f.1 g.1
one_answer law c s t (Do History) r q end other sound p k f g =
    let here = (law.reads c.held.kept.closed s.held.kept.closed sound.held.valid p.held.sets.closed).order in
    let there = (law.reads c.held.kept.closed t.held.kept.closed sound.held.valid k.held.sets.closed).order in
    stay c s t r q end other sound p k (f.0 ∙ ap (λ members. history_text (map line_of members)) (here ∙ sym there) ∙ sym g.0) f.1 g.1
one_answer law c s t (Do (Show named)) r q end other sound p k f g =
    one_show law form.Winners named c s t r q end other sound p k f.0 f.1 g.0 g.1
one_answer law c s t (Do (Conflicts named)) r q end other sound p k f g =
    one_show law form.All named c s t r q end other sound p k f.0 f.1 g.0 g.1
one_answer law c s t (Do (Audit named)) r q end other sound p k f g =
    let here = read_alike law.reads form.Winners named c.held.kept.closed s.held.kept.closed sound.held.valid p.held.sets.closed in
    let there = read_alike law.reads form.Winners named c.held.kept.closed t.held.kept.closed sound.held.valid k.held.sets.closed in
    stay c s t r q end other sound p k (f.0 ∙ here ∙ sym there ∙ sym g.0) f.1 g.1
one_answer law c s t (Do (Export hash name)) r q end other sound p k f g =
    one_export c s t hash name (chunk_in c.held.kept.closed hash) _ _ r q end other sound p k (one_chunk law c.held s.held sound.held p.held hash) (one_chunk law c.held t.held sound.held k.held hash) f g
one_answer law c s t (Do Stats) r q end other sound p k f g =
    let here = one_stats law c.held s.held sound.held p.held in
    let there = one_stats law c.held t.held sound.held k.held in
    stay c s t r q end other sound p k (f.0 ∙ here ∙ sym there ∙ sym g.0) f.1 g.1
one_answer law c s t (Do (Bench count)) r q end other sound p k f g = stay c s t r q end other sound p k (f.0 ∙ sym g.0) f.1 g.1
one_answer law c s t LongLine r q end other sound p k f g = stay c s t r q end other sound p k (f.0 ∙ sym g.0) f.1 g.1
one_answer law c s t Syntax r q end other sound p k f g = stay c s t r q end other sound p k (f.0 ∙ sym g.0) f.1 g.1
one_answer law c s t BadHash r q end other sound p k f g = stay c s t r q end other sound p k (f.0 ∙ sym g.0) f.1 g.1

-- ---- whole scripts

same_state : (c s t : State) → SameState c s → SameState c t → SameState s t
same_state c s t p k = record { held = between c.held s.held t.held p.held k.held; files = sym p.files ∙ k.files }

-- as many replies are the same ones, and leave the same to do
same_front : Laws → (stops : Bool) (c s t : State) (asked : List Request) (rs qs : List (List ℕ)) (end other : State) (left more : List Request) → Sound c → SameState c s → SameState c t → Runs stops s asked rs end left → Runs stops t asked qs other more → length rs ≡ length qs → (rs ≡ qs) × SameState end other × (left ≡ more)
same_front law stops c s t asked [] [] end other left more sound p k f g n = (refl, same_state c end other (subst (SameState c) (sym f.0) p) (subst (SameState c) (sym g.0) k), f.1 ∙ sym g.1)
same_front law stops c s t asked [] (q ∷ qs) end other left more sound p k f g n = absurd (omega arith)
same_front law stops c s t asked (r ∷ rs) [] end other left more sound p k f g n = absurd (omega arith)
same_front law stops c s t [] (r ∷ rs) (q ∷ qs) end other left more sound p k f g n = absurd f
same_front law stops c s t (a ∷ later) (r ∷ rs) (q ∷ qs) end other left more sound p k f g n =
    let step = one_answer law c s t a r q f.0 g.0 sound p k f.1 g.1 in
    let behind : left_after stops r later ≡ left_after stops q later = ap (λ x. left_after stops x later) step.reply in
    let rest = same_front law stops step.next f.0 g.0 (left_after stops q later) rs qs end other left more step.sound step.left step.right (subst (λ l. Runs stops f.0 l rs end left) behind f.2) g.2 (omega arith) in
    (λ i. step.reply i ∷ rest.0 i, rest.1, rest.2)

-- replies that leave nothing to do are as many
same_length : Laws → (stops : Bool) (c s t : State) (asked : List Request) (rs qs : List (List ℕ)) (end other : State) → Sound c → SameState c s → SameState c t → Runs stops s asked rs end [] → Runs stops t asked qs other [] → length rs ≡ length qs
same_length law stops c s t asked [] [] end other sound p k f g = refl
same_length law stops c s t [] [] (q ∷ qs) end other sound p k f g = absurd g
same_length law stops c s t (a ∷ later) [] (q ∷ qs) end other sound p k f g = absurd (cc)
same_length law stops c s t [] (r ∷ rs) qs end other sound p k f g = absurd f
same_length law stops c s t (a ∷ later) (r ∷ rs) [] end other sound p k f g = absurd (cc)
same_length law stops c s t (a ∷ later) (r ∷ rs) (q ∷ qs) end other sound p k f g =
    let step = one_answer law c s t a r q f.0 g.0 sound p k f.1 g.1 in
    let behind : left_after stops r later ≡ left_after stops q later = ap (λ x. left_after stops x later) step.reply in
    let rest = same_length law stops step.next f.0 g.0 (left_after stops q later) rs qs end other step.sound step.left step.right (subst (λ l. Runs stops f.0 l rs end []) behind f.2) g.2 in
    omega (arith, rest)

-- the first state
empty_stored : AreStored [] []
empty_stored = record {
  valid = record { listing = []; same = IsPermutation-refl []; in_turn = tt };
  waiting = λ k d lt. absurd (omega arith);
  hashes = λ i j d lt less. absurd (omega arith);
  settled = refl;
}

first_sound : (files : Files) → Sound (first_state (Some files))
first_sound files = record { held = empty_stored; told = files; files = refl }

first_same : (files : Files) → SameState (first_state (Some files)) (first_state (Some files))
first_same files = record { held = same_held nothing_held; files = refl }

pub front : Laws → (stops : Bool) (files : Files) (asked : List Request) (rs qs : List (List ℕ)) (end other : State) (left more : List Request) → Runs stops (first_state (Some files)) asked rs end left → Runs stops (first_state (Some files)) asked qs other more → length rs ≡ length qs → (rs ≡ qs) × SameState end other × (left ≡ more)
front law stops files asked rs qs end other left more f g n =
    let s = first_state (Some files) in
    same_front law stops s s s asked rs qs end other left more (first_sound files) (first_same files) (first_same files) f g n

pub whole : Laws → (stops : Bool) (files : Files) (asked : List Request) (rs qs : List (List ℕ)) (end other : State) → Runs stops (first_state (Some files)) asked rs end [] → Runs stops (first_state (Some files)) asked qs other [] → (rs ≡ qs) × SameState end other
whole law stops files asked rs qs end other f g =
    let s = first_state (Some files) in
    let n = same_length law stops s s s asked rs qs end other (first_sound files) (first_same files) (first_same files) f g in
    let same = front law stops files asked rs qs end other [] [] f g n in
    (same.0, same.1)
