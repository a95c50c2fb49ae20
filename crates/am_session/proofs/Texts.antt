-- The texts that a session keeps are what is printed, and stay so when the closed set grows.
use Rattle.std.proofs.Common.{◌≡◌, ◌∙◌, ℕ, List, [], ◌∷◌, get_or, Bool, true, false, cond, Option, Some, None, Result, Ok, Err, find, not, refl, sym, ap, subst, Contains}
use Rattle.std.specs.Prelude.{All, IsTrue, IfSome, IfOk, OnOk, OnErr}
use Rattle.std.proofs.lemmas.List.Elements.{All-head, All-tail, All-cons, All-nil, All-take, All-contains, Contains-get_or}
use Rattle.std.proofs.lemmas.List.Sorted.{Contains-permutation}
use Rattle.std.proofs.lemmas.Map.Views.{Contains-from_lookup}
use Rattle.am_types.specs.declared.Change.{Change}
use Rattle.am_types.specs.declared.Hash.{Hash}
use Rattle.am_types.specs.Operations.{all_operations}
use Rattle.am_types.specs.Members.{Member, changes, holds}
use Rattle.am_types.specs.Replay.{replay}
use Rattle.am_types.specs.ValidSets.{Valid}
use Rattle.am_types.specs.Deliver.{deliver}
use Rattle.am_laws.specs.Laws.{ViewsStay}
use Rattle.am_delivery.proofs.Members.{holds_within}
use Rattle.am_change.specs.Hashes.{with_hashes}
use Rattle.am_store.specs.declared.Report.{Report}
use Rattle.am_store.specs.Kept.{Kept, IsKept, Delivered}
use Rattle.am_store.specs.Files.{IsFile}
use Rattle.am_json.specs.Shown.{json_data}
use Rattle.am_json.specs.declared.Form.{Form}
use Rattle.am_cache.specs.declared.View.{View}
use Rattle.am_cache.specs.Views.{same_view}
use Rattle.am_cache.specs.Kept as cache
use Rattle.am_cache.specs.Kept.{text_of, others, found, looked_up, with_text}
use Rattle.am_session.specs.Replies.{is_refused, unknown}
use Rattle.am_session.specs.Reading.{visible, printed, reading_by, reading_at}
use Rattle.am_session.specs.Session.{Held, with_views}
use Rattle.am_session.specs.Views.{each_once, view_at, used, viewed, ShowsAt, IsText, AreTexts}
use Rattle.am_session.proofs.SameView.{same_is}
use Rattle.am_session.proofs.Growth.{deliver_keeps}
use Rattle.am_session.proofs.AtHashes.{alike_ancestors, alike_each_once, Contains-each_once, Contains-from_each_once}

abbrev pub AreHeld : List Member → List Hash → Type 0
AreHeld C hs = All (λ h. IsTrue (holds C h)) hs

-- ---- what is printed at hashes that are held

none_unheld : (C : List Member) (hs : List Hash) → AreHeld C hs → find (λ h. not (holds C h)) hs ≡ None
none_unheld C [] held = refl
none_unheld C (h ∷ hs) held =
    let again = none_unheld C hs (All-tail (λ h. IsTrue (holds C h)) h hs held) in
    subst (λ b. cond (not b) (Some h) (find (λ h. not (holds C h)) hs) ≡ None) (sym (All-head (λ h. IsTrue (holds C h)) h hs held)) again

reading_held : (form : Form) (C : List Member) (hs : List Hash) → AreHeld C hs → reading_at form hs C ≡ printed (json_data form (visible C hs))
reading_held form C hs held = ap (λ o. reading_by o form (visible C hs)) (none_unheld C hs held)

-- a reply that isn't a refusal is read where all is held
held_unless : (C : List Member) (hs : List Hash) → find (λ h. not (holds C h)) hs ≡ None → AreHeld C hs
held_unless C [] none = All-nil (λ h. IsTrue (holds C h))
held_unless C (h ∷ hs) none = by (holds C h) refl none (held_unless C hs)
  where
    by : (b : Bool) → holds C h ≡ b → cond (not b) (Some h) (find (λ h. not (holds C h)) hs) ≡ None → (find (λ h. not (holds C h)) hs ≡ None → AreHeld C hs) → AreHeld C (h ∷ hs)
    by true is none rest = All-cons (λ h. IsTrue (holds C h)) h hs is (rest none)
    by false is none rest = absurd (cc)

told_none : (form : Form) (C : List Member) (hs : List Hash) → is_refused (reading_at form hs C) ≡ false → find (λ h. not (holds C h)) hs ≡ None
told_none form C hs told = by (find (λ h. not (holds C h)) hs) told
  where
    by : (o : Option Hash) → is_refused (reading_by o form (visible C hs)) ≡ false → o ≡ None
    by None told = refl
    by (Some h) told = absurd (refuses h told)
      where
        refuses : (h : Hash) → is_refused (unknown h) ≡ false → ⊥
        refuses h e = cc

once_held : (C : List Member) (hs : List Hash) → AreHeld C hs → AreHeld C (each_once hs)
once_held C hs held = λ k d lt. All-contains (λ h. IsTrue (holds C h)) hs _ held (Contains-from_each_once hs _ (Contains-get_or (each_once hs) k d lt))

held_once : (C : List Member) (hs : List Hash) → AreHeld C (each_once hs) → AreHeld C hs
held_once C hs held = λ k d lt. All-contains (λ h. IsTrue (holds C h)) (each_once hs) _ held (Contains-each_once hs _ (Contains-get_or hs k d lt))

visible_once : (C : List Member) (hs : List Hash) → visible C hs ≡ visible C (each_once hs)
visible_once C hs = ap (λ A. replay (all_operations (changes A))) (alike_ancestors C hs (each_once hs) (alike_each_once hs))

-- the order and the repeats of the hashes don't matter
reading_once : (form : Form) (C : List Member) (hs : List Hash) → AreHeld C hs → reading_at form hs C ≡ reading_at form (each_once hs) C
reading_once form C hs held =
    reading_held form C hs held
    ∙ ap (λ entries. printed (json_data form entries)) (visible_once C hs)
    ∙ sym (reading_held form C (each_once hs) (once_held C hs held))

-- ---- texts that are kept

text_told : (form : Form) (C : List Member) (hs : List Hash) (reply : List ℕ) → reply ≡ reading_at form hs C → is_refused reply ≡ false → IsText C (view_at form hs) reply
text_told form C hs reply is told =
    let held = held_unless C hs (told_none form C hs (ap is_refused (sym is) ∙ told)) in
    record {
      held = once_held C hs held;
      printed = is ∙ reading_once form C hs held;
      told = told;
    }

text_read : (form : Form) (C : List Member) (hs : List Hash) (text : List ℕ) → IsText C (view_at form hs) text → text ≡ reading_at form hs C
text_read form C hs text kept = kept.printed ∙ sym (reading_once form C hs (held_once C hs kept.held))

pub text_found : (C : List Member) (c : cache.Kept) (v : View) (text : List ℕ) → AreTexts C c → text_of v c ≡ Some text → IsText C v text
text_found C c v text all found = All-contains (λ (e : View × List ℕ). IsText C e.0 e.1) c.views (v, text) all (Contains-from_lookup same_is v text c.views found)

others_right : (P : View × List ℕ → Type 0) (v : View) (es : List (View × List ℕ)) → All P es → All P (others v es)
others_right P v [] all = all
others_right P v (e ∷ es) all = by (same_view v e.0) (others_right P v es (All-tail P e es all))
  where
    by : (b : Bool) → All P (others v es) → All P (cond b es (e ∷ others v es))
    by true rest = All-tail P e es all
    by false rest = All-cons P e (others v es) (All-head P e es all) rest

pub texts_looked : (C : List Member) (c : cache.Kept) (v : View) → AreTexts C c → AreTexts C (looked_up v c)
texts_looked C c v all = by (text_of v c) refl
  where
    by : (o : Option (List ℕ)) → text_of v c ≡ o → AreTexts C (found v c o)
    by None e = all
    by (Some text) e = All-cons (λ (p : View × List ℕ). IsText C p.0 p.1) (v, text) (others v c.views) (text_found C c v text all e) (others_right (λ (p : View × List ℕ). IsText C p.0 p.1) v c.views all)

texts_put : (C : List Member) (c : cache.Kept) (v : View) (text : List ℕ) → AreTexts C c → IsText C v text → AreTexts C (with_text v text c)
texts_put C c v text all kept =
    All-take (λ (p : View × List ℕ). IsText C p.0 p.1) 16 ((v, text) ∷ others v c.views)
    (All-cons (λ (p : View × List ℕ). IsText C p.0 p.1) (v, text) (others v c.views) kept (others_right (λ (p : View × List ℕ). IsText C p.0 p.1) v c.views all))

-- ---- when the closed set grows

text_stays : ViewsStay → (C D : List Member) → Valid C → Valid D → All (Contains D) C → (v : View) (text : List ℕ) → IsText C v text → IsText D v text
text_stays stays C D valid grown within v text kept =
    let held : AreHeld D v.heads = λ k d lt. holds_within C D _ (λ m. All-contains (Contains D) C m within) (kept.held k d lt) in
    let seen : visible D v.heads ≡ visible C v.heads = (stays C D v.heads valid grown within kept.held).visible in
    record {
      held = held;
      printed =
          kept.printed
          ∙ reading_held v.form C v.heads kept.held
          ∙ ap (λ entries. printed (json_data v.form entries)) (sym seen)
          ∙ sym (reading_held v.form D v.heads held);
      told = kept.told;
    }

texts_stay : ViewsStay → (C D : List Member) → Valid C → Valid D → All (Contains D) C → (c : cache.Kept) → AreTexts C c → AreTexts D c
texts_stay stays C D valid grown within c all = λ k d lt. text_stays stays C D valid grown within _ _ (all k d lt)

grown_within : (C D : List Member) → ((x : Member) → Contains C x → Contains D x) → All (Contains D) C
grown_within C D keeps = λ k d lt. keeps (get_or C k d) (Contains-get_or C k d lt)

texts_delivered : ViewsStay → (old new : Kept) (cs : List Change) (report : Report) (c : cache.Kept) → IsKept old → IsKept new → Delivered old cs report new → AreTexts old.closed c → AreTexts new.closed c
texts_delivered stays old new cs report c before after left all =
    texts_stay stays old.closed new.closed before.stored.valid after.stored.valid
    (grown_within old.closed new.closed (λ x h. Contains-permutation (deliver old.closed old.waiting (with_hashes cs)).closed new.closed x left.closed (deliver_keeps old.closed old.waiting (with_hashes cs) x h)))
    c all

-- after a file was read, whether its changes were delivered or not
pub texts_after : {E : Type 0} → ViewsStay → (result : Result Report E) (only : Bool) (bytes : List ℕ) (old new : Kept) (c : cache.Kept) → IsKept old → IsKept new
    → IfOk result (λ report. (cs : List Change) × IsFile only bytes cs × Delivered old cs report new) → OnErr result (new ≡ old) → AreTexts old.closed c → AreTexts new.closed c
texts_after stays (Ok report) only bytes old new c before after ok err all = texts_delivered stays old new ok.0 report c before after ok.2 all
texts_after stays (Err fault) only bytes old new c before after ok err all = subst (λ k. AreTexts k.closed c) (sym err) all

-- ---- a text is kept, or used again

-- whether there was memory for it or not
pub texts_kept : {R E : Type 0} → (result : Result R E) (C : List Member) (old new : cache.Kept) (v : View) (text : List ℕ) → OnOk result (new ≡ with_text v text old) → OnErr result (new ≡ old)
    → AreTexts C old → IsText C v text → AreTexts C new
texts_kept (Ok done) C old new v text ok err all kept = subst (AreTexts C) (sym ok) (texts_put C old v text all kept)
texts_kept (Err fault) C old new v text ok err all kept = subst (AreTexts C) (sym err) all

-- what is printed may be kept
pub text_printed : (C : List Member) (v : View) (hs : List Hash) (reply : List ℕ) → v.heads ≡ each_once hs → reply ≡ reading_at v.form hs C → is_refused reply ≡ false → IsText C v reply
text_printed C v hs reply at is told = subst (λ gs. IsText C (record { form = v.form; heads = gs }) reply) (sym at) (text_told v.form C hs reply is told)

viewed_again : (v : View) (text : List ℕ) (c : cache.Kept) → is_refused text ≡ false → text_of v c ≡ Some text → viewed v text c ≡ looked_up v c
viewed_again v text c told found = ap (λ b. cond b c (used (text_of v c) v text c)) told ∙ ap (λ o. used o v text c) found

-- what is kept is what is shown
pub shown_again : (form : Form) (hs : List Hash) (old new : Held) (view : View) (found : Option (List ℕ)) (text : List ℕ) → view ≡ view_at form hs → found ≡ Some text → found ≡ text_of view old.views
    → IfSome found (λ t. IsText old.kept.closed view t) → new ≡ with_views old (looked_up view old.views) → ShowsAt form hs old text new
shown_again form hs old new view found text at is kept right after =
    let there : text_of (view_at form hs) old.views ≡ Some text = ap (λ v. text_of v old.views) (sym at) ∙ sym kept ∙ is in
    let good : IsText old.kept.closed (view_at form hs) text = subst (λ v. IsText old.kept.closed v text) at (subst (λ o. IfSome o (λ t. IsText old.kept.closed view t)) is right) in (
      text_read form old.kept.closed hs text good,
      after ∙ ap (λ v. with_views old (looked_up v old.views)) at ∙ ap (with_views old) (sym (viewed_again (view_at form hs) text old.views good.told there)),
    )
