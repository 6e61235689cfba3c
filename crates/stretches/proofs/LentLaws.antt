-- What stays of lists that are lent, over no call and over two.
use mathlib.Core.Path.{refl, ◌∙◌}
use Rattle.stretches.specs.Lent.{SameLists}
use Rattle.stretches.specs.declared.Classes.{Classes}

pub same-lists-none : (classes : Classes) → SameLists classes classes
same-lists-none classes = record { order = refl; place = refl; class = refl; start = refl; end = refl }

pub same-lists-then : {old new new' : Classes} → SameLists old new → SameLists new new' → SameLists old new'
same-lists-then S T = record {
  order = T.order ∙ S.order;
  place = T.place ∙ S.place;
  class = T.class ∙ S.class;
  start = T.start ∙ S.start;
  end = T.end ∙ S.end;
}
