-- Words of a form, and their plan.
use Rattle.std.proofs.Common.{◌≡◌, ◌≢◌, ◌≤◌, ◌<◌, ◌^◌, ℕ, List, [], ◌∷◌, codes, length, get_or, drop, take, map, Bool, true, false, Option, Some, None, Result, Ok, Err, refl, sym, subst, ◌∙◌, arith}
use Rattle.std.specs.List.{All, list_all}
use Rattle.std.specs.Prelude.{◌&&◌, if◌then◌else◌}
use Rattle.std.specs.Str.{bytes_eq}
use Rattle.std.proofs.lemmas.Slice.Eq.{bytes_eq-Decides}
use Rattle.std.proofs.lemmas.List.Elements.{All-nil, All-cons}
use Rattle.am_script.specs.declared.planned.Plan.{Plan}
use Rattle.am_script.specs.declared.planned.Plan.TheVariants.{Lines}
use Rattle.am_script.specs.declared.command.Command.TheVariants.{Load, Save}
use Rattle.am_script.specs.declared.fault.LineFault.TheVariants.{Syntax}
use Rattle.am_script.specs.Words.{Text, Read, is_word, made, before, name_of}
use Rattle.am_script.specs.Tables.{by_table}
use Rattle.am_script.specs.Plans.{plans, plan_of, is_plain, if_read}
use Rattle.am_script.specs.Forms.{Form, HasForm, SomeForm, IsPlain, is_run, is_show, is_check, is_normalize, is_history, run, show, check, normalize, history}
use Rattle.clap.specs.Words.{takes}
use Rattle.am_script.specs.Parser.{command}
use Rattle.am_script.proofs.Taken.{takes_form}
use Rattle.am_script.proofs.Texts.{both_true}

-- words whose first word is none of the other four are of the last form
pub last_form : (first : Text) (more : List Text) → SomeForm (first ∷ more)
    → bytes_eq first (codes "run") ≡ false → bytes_eq first (codes "show") ≡ false → bytes_eq first (codes "normalize") ≡ false → bytes_eq first (codes "check") ≡ false
    → bytes_eq first (codes "history") ≡ true
last_form _ _ (_, is_run) a b c d = cc
last_form _ _ (_, is_show) a b c d = cc
last_form _ _ (_, is_check) a b c d = cc
last_form _ _ (_, is_normalize) a b c d = cc
last_form _ _ (_, is_history) a b c d = refl

-- ---- words with a plan have a form

after_run : (p : Plan) (more : List Text) → by_table plans (codes "run" ∷ more) ≡ Ok p → SomeForm (codes "run" ∷ more)
after_run p [] e = (run, is_run)
after_run p (word ∷ more) e = cc

after_show : (p : Plan) (more : List Text) → by_table plans (codes "show" ∷ more) ≡ Ok p → SomeForm (codes "show" ∷ more)
after_show p [] e = cc
after_show p (file ∷ more) e = (show file more, is_show)

after_check : (p : Plan) (more : List Text) → by_table plans (codes "check" ∷ more) ≡ Ok p → SomeForm (codes "check" ∷ more)
after_check p [] e = cc
after_check p (file ∷ []) e = (check file, is_check)
after_check p (file ∷ word ∷ more) e = cc

after_history : (p : Plan) (more : List Text) → by_table plans (codes "history" ∷ more) ≡ Ok p → SomeForm (codes "history" ∷ more)
after_history p [] e = cc
after_history p (file ∷ []) e = (history file, is_history)
after_history p (file ∷ word ∷ more) e = cc

after_normalize : (p : Plan) (more : List Text) → by_table plans (codes "normalize" ∷ more) ≡ Ok p → SomeForm (codes "normalize" ∷ more)
after_normalize p [] e = cc
after_normalize p (source ∷ []) e = absurd (none (name_of source) e)
  where
    none : (read : Read Text) → made (λ (both : Text × Text). Lines (Load both.0 ∷ Save both.1 ∷ [])) (before read (λ first. made (λ second. (first, second)) (Err Syntax))) ≡ Ok p → ⊥
    none (Ok read) e = cc
    none (Err fault) e = cc
after_normalize p (source ∷ target ∷ []) e = (normalize source target, is_normalize)
after_normalize p (source ∷ target ∷ word ∷ more) e = absurd (none (name_of source) e)
  where
    none : (read : Read Text) → made (λ (both : Text × Text). Lines (Load both.0 ∷ Save both.1 ∷ [])) (before read (λ first. made (λ second. (first, second)) (Err Syntax))) ≡ Ok p → ⊥
    none (Ok read) e = cc
    none (Err fault) e = cc

is_it : (word name : Text) (more : List Text) (p : Plan) → bytes_eq word name ≡ true → (by_table plans (name ∷ more) ≡ Ok p → SomeForm (name ∷ more)) → by_table plans (word ∷ more) ≡ Ok p → SomeForm (word ∷ more)
is_it word name more p e known = subst (λ w. by_table plans (w ∷ more) ≡ Ok p → SomeForm (w ∷ more)) (sym ((bytes_eq-Decides word name).0 e)) known

pub has_form : (words : List Text) (p : Plan) → by_table plans words ≡ Ok p → SomeForm words
has_form [] p e = cc
has_form (w ∷ ws) p e = go (bytes_eq w (codes "run")) (bytes_eq w (codes "show")) (bytes_eq w (codes "check")) (bytes_eq w (codes "normalize")) (bytes_eq w (codes "history")) refl refl refl refl refl
  where
    go : (a b c d f : Bool) → bytes_eq w (codes "run") ≡ a → bytes_eq w (codes "show") ≡ b → bytes_eq w (codes "check") ≡ c → bytes_eq w (codes "normalize") ≡ d → bytes_eq w (codes "history") ≡ f → SomeForm (w ∷ ws)
    go true b c d f ra rb rc rd rf = is_it w (codes "run") ws p ra (after_run p ws) e
    go false true c d f ra rb rc rd rf = is_it w (codes "show") ws p rb (after_show p ws) e
    go false false true d f ra rb rc rd rf = is_it w (codes "check") ws p rc (after_check p ws) e
    go false false false true f ra rb rc rd rf = is_it w (codes "normalize") ws p rd (after_normalize p ws) e
    go false false false false true ra rb rc rd rf = is_it w (codes "history") ws p rf (after_history p ws) e
    go false false false false false ra rb rc rd rf = let t = rw (ra, rb, rc, rd, rf) at e in cc

plain_word : (w : Text) → is_plain w ≡ true → IsPlain w
plain_word w e same = let t = rw same at e in cc

pub plain_words : (words : List Text) → list_all is_plain words ≡ true → All IsPlain words
plain_words [] e = All-nil IsPlain
plain_words (w ∷ ws) e = let both = both_true _ _ e in All-cons IsPlain w ws (plain_word w both.0) (plain_words ws both.1)

none_read : {A : Type 0} (read : Read A) → ((p : A) → read ≡ Ok p → ⊥) → if_read read ≡ None
none_read (Ok p) unread = absurd (unread p refl)
none_read (Err fault) unread = refl

-- words that the parser refuses have no plan
pub no_plan : (words : List Text) → length words < 2 ^ 64 → list_all is_plain words ≡ true → takes command words ≢ true → if_read (by_table plans words) ≡ None
no_plan words short plain refused = none_read (by_table plans words) (λ p e.
    let form = has_form words p e in refused (takes_form words form.0 short (plain_words words plain) form.1))

pub planless : (words : List Text) → if_read (by_table plans words) ≡ None → plan_of words ≡ None
planless words none = go (list_all is_word words && list_all is_plain words)
  where
    go : (b : Bool) → (if b then if_read (by_table plans words) else None) ≡ None
    go true = none
    go false = refl
