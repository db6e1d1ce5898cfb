use Rattle.std.proofs.Common.{◌≡◌, ℕ, List, ◌++◌, ◌-◌, ◌*◌, ◌∙◌, ap, drop, length, min, sym, take}
use Rattle.std.proofs.Math.Seq.{drop-append_seam, take-append_seam, take-length}
use Rattle.std.proofs.lemmas.List.{length-drop, length-take, take_min}
use Rattle.library_calls.proofs.calls.copied.Goals as goal

-- the front of what a text has from a place on
module _ (text : List ℕ) (from most count : ℕ)
    (least : count ≡ min most (length (take (length text - from) (drop from text)))) where
  whole : take (length text - from) (drop from text) ≡ drop from text
  whole = ap (λ n. take n (drop from text)) (sym (length-drop from text)) ∙ take-length (drop from text)

  as_many : count ≡ min most (length (drop from text))
  as_many = least ∙ ap (λ (l : List ℕ). min most (length l)) whole

  counted : count ≡ length (take most (drop from text))
  counted = as_many ∙ sym (length-take most (drop from text))

  module _ (front behind : List ℕ)
      (is : front ≡ take count (take (length text - from) (drop from text))) where
    same : front ≡ take most (drop from text)
    same = is ∙ ap (λ (l : List ℕ). take count l) whole
        ∙ ap (λ n. take n (drop from text)) as_many ∙ take_min most (drop from text)

    long : count ≡ length front
    long = counted ∙ sym (ap (λ (l : List ℕ). length l) same)

    filled : take count (front ++ behind) ≡ take most (drop from text)
    filled = ap (λ n. take n (front ++ behind)) long ∙ take-append_seam front behind ∙ same

    left : drop count (front ++ behind) ≡ behind
    left = ap (λ n. drop n (front ++ behind)) long ∙ drop-append_seam front behind

-- src/calls.rt:147:1
pub returns-clause-length : goal.returns-clause-length
returns-clause-length c = counted c.args.text.now (c.args.piece * 4096) 4096 c.min-count.result c.min-count.ensures

-- src/calls.rt:147:1
pub returns-clause-bytes : goal.returns-clause-bytes
returns-clause-bytes c = filled c.args.text.now (c.args.piece * 4096) 4096 c.min-count.result c.min-count.ensures c.copy_from_slice.new.self (drop c.min-count.result c.args.room.now) c.copy_from_slice.ensures.after

-- src/calls.rt:147:1
pub returns-clause-behind : goal.returns-clause-behind
returns-clause-behind c = left c.args.text.now (c.args.piece * 4096) 4096 c.min-count.result c.min-count.ensures c.copy_from_slice.new.self (drop c.min-count.result c.args.room.now) c.copy_from_slice.ensures.after
