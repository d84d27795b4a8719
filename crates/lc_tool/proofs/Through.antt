-- What a course that goes well has gone through.
use Rattle.std.proofs.Common.{◌≡◌, ℕ, List, length, refl, subst, Option, Some, None, IfSome, IfOk, Result, Ok, Err, Bool, true, false, cond, nat_lt}
use Rattle.lc_num.specs.Faults.{Fault}
use Rattle.lc_desk.specs.Desk.{Files}
use Rattle.lc_light.specs.LightFile.{fault_in, lights}
use Rattle.lc_light.specs.declared.lights.Lights.{Lights}
use Rattle.lc_tool.specs.declared.status.Source.{Source}
use Rattle.lc_tool.specs.declared.status.Source.TheVariants as source
use Rattle.lc_tool.specs.Course.{Course, Refusal, goes_on, and_then, told}
use Rattle.lc_tool.specs.Lines.{file_limit}
use Rattle.lc_tool.specs.Outcome.{within, text_of, unless_faulty, lights_of, lights_text}

-- the first step gave a value, and the rest went well from there
pub record Through {A B : Type 0} (step : Course A) (next : A → Course B) (b : B) : Type 0 where
  pub value : A
  pub stepped : step.end ≡ Ok value
  pub went : (next value).end ≡ Ok b

pub went_through : {A B : Type 0} (step : Course A) (next : A → Course B) (b : B) → (and_then step next).end ≡ Ok b → Through step next b
went_through step next b e = go step.end refl e where
  go : (end : Result _ Refusal) → step.end ≡ end → (goes_on step.reads end next).end ≡ Ok b → Through step next b
  go (Ok a) s e = record { value = a; stepped = s; went = e }
  go (Err r) s e = cc

pub ok_same : {A : Type 0} (a b : A) → ◌≡◌ {A = Result A Refusal} (Ok a) (Ok b) → a ≡ b
ok_same a b e = cc

pub if_ok : {A E : Type 0} (r : Result A E) (a : A) (P : A → Type 0) → r ≡ Ok a → IfOk r P → P a
if_ok r a P e h = let Q : Result _ _ → Type 0 = λ x. IfOk x P in subst Q e h

-- what is said of a course that is told, over the files
pub told_files : {A : Type 0} (course : Files → Course A) (held : Option Files) (P : Course A → Type 0) → IfSome (told course held) P → IfSome held (λ files. P (course files))
told_files course None P h = tt
told_files course (Some files) P h = h

short_gave : (long : Bool) (r : Refusal) (b bytes : List ℕ) → cond long (Err r) (Ok b) ≡ Ok bytes → Some b ≡ Some bytes
short_gave true r b bytes e = cc
short_gave false r b bytes e = cc

pub within_gave : (limit : ℕ) (name : List ℕ) (file : Option (List ℕ)) (bytes : List ℕ) → within limit name file ≡ Ok bytes → file ≡ Some bytes
within_gave limit name None bytes e = cc
within_gave limit name (Some b) bytes e = short_gave (nat_lt limit (length b)) _ b bytes e

pub unless_gave : {A : Type 0} (text : Source) (name : List ℕ) (found : Option Fault) (value a : A) → unless_faulty text name found value ≡ Ok a → (found ≡ None) × (value ≡ a)
unless_gave text name None value a e = (refl, ok_same value a e)
unless_gave text name (Some fault) value a e = cc

-- the lights of a file are those of a text without a fault
pub record LightsGiven (name : List ℕ) (seed : ℕ) (files : Files) (given : Lights) : Type 0 where
  pub text : List ℕ
  pub read : files name ≡ Some text
  pub right : fault_in text ≡ None
  pub same : lights text seed ≡ given

pub lights_given : (name : List ℕ) (seed : ℕ) (files : Files) (given : Lights) → (lights_of name seed files).end ≡ Ok given → LightsGiven name seed files given
lights_given name seed files given e =
    let w = went_through (text_of file_limit name files) (λ text. lights_text name seed text) given e in
    let v = unless_gave source.Lights name (fault_in w.value) (lights w.value seed) given w.went in
    record { text = w.value; read = within_gave file_limit name (files name) w.value w.stepped; right = v.0; same = v.1 }
