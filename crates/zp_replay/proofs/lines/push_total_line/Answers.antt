use Rattle.std.proofs.Common.{◌≡◌, ℕ, List, ◌++◌, ap, ◌∙◌, append_assoc}
use Rattle.zp_replay.proofs.lines.push_total_line.Goals as goal

-- a line that was appended part by part
parts : (start p0 p1 p2 p3 p4 p5 p6 p7 p8 p9 a0 a1 a2 a3 a4 a5 a6 a7 a8 a9 : List ℕ) →
    a0 ≡ start ++ p0 → a1 ≡ a0 ++ p1 → a2 ≡ a1 ++ p2 → a3 ≡ a2 ++ p3 → a4 ≡ a3 ++ p4 → a5 ≡ a4 ++ p5 → a6 ≡ a5 ++ p6 → a7 ≡ a6 ++ p7 → a8 ≡ a7 ++ p8 → a9 ≡ a8 ++ p9 →
    a9 ≡ start ++ (p0 ++ (p1 ++ (p2 ++ (p3 ++ (p4 ++ (p5 ++ (p6 ++ (p7 ++ (p8 ++ p9)))))))))
parts start p0 p1 p2 p3 p4 p5 p6 p7 p8 p9 a0 a1 a2 a3 a4 a5 a6 a7 a8 a9 e0 e1 e2 e3 e4 e5 e6 e7 e8 e9 =
    e9 ∙ ap (λ q. q ++ p9) (e8 ∙ ap (λ q. q ++ p8) (e7 ∙ ap (λ q. q ++ p7) (e6 ∙ ap (λ q. q ++ p6) (e5 ∙ ap (λ q. q ++ p5) (e4 ∙ ap (λ q. q ++ p4) (e3 ∙ ap (λ q. q ++ p3) (e2 ∙ ap (λ q. q ++ p2) (e1 ∙ ap (λ q. q ++ p1) (e0)))))))))
    ∙ simp append_assoc

pub returns-clause-bytes : goal.returns-clause-bytes
returns-clause-bytes g c =
    parts _ _ _ _ _ _ _ _ _ _ _ _ _ _ _ _ _ _ _ _ _ c.push.ensures.bytes c.push-2.ensures.bytes c.push_counted.ensures.bytes c.push_counted-2.ensures.bytes c.push_counted-3.ensures.bytes
    c.push_counted-4.ensures.bytes c.push_counted-5.ensures.bytes c.push-3.ensures.bytes
    (c.push-4.ensures.bytes ∙ ap (λ w. c.push-3.new.self ++ w) c.level_word.ensures.word) c.push-5.ensures.bytes
