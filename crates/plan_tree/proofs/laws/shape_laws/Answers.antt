use Rattle.plan_tree.proofs.Shapes.{out_shape, value_shape}
use Rattle.plan_tree.proofs.ValueLists.{whole_shapes}
use Rattle.plan_tree.proofs.laws.shape_laws.Goals as goal

pub returns : goal.returns
returns c = record {
  out = λ stored before values piece position bytes shapes is. out_shape before values shapes stored bytes piece is position;
  value = λ stored before values piece bytes shapes is. value_shape before values shapes stored bytes piece is;
  list = λ stored pieces bytes formed. whole_shapes stored bytes pieces formed;
}
